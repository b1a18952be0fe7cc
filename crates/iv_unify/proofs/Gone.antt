-- Which indices are left in an abstraction over bound variables, and when two such abstractions are the same.
use Rattle.std.proofs.Common.{◌≡◌, ℕ, suc, ◌+◌, ◌<◌, ◌≤◌, Bool, true, false, ◌||◌, ◌⊎◌, inl, inr, nat_eq, nat_lt, if◌then◌else◌, List, [], ◌∷◌, Option, Some, None, eqb-true, refl, sym, ◌∙◌, ap, subst, arith}
use Rattle.std.proofs.lemmas.Bool.{or_parts}
use Rattle.iv_term.specs.declared.typ.Typ.{Typ}
use Rattle.iv_term.specs.declared.typ.Types.{Types}
use Rattle.iv_term.specs.declared.term.Head.{Head}
use Rattle.iv_term.specs.declared.term.Head.TheVariants.{Const, Free, Schematic, Bound}
use Rattle.iv_term.specs.declared.term.Term.{Term}
use Rattle.iv_term.specs.declared.term.Terms.{Terms}
use Rattle.iv_term.specs.declared.term.Term.TheBlock.{Spine, Nil}
use Rattle.iv_term.specs.Typ.{fun}
use Rattle.iv_term.specs.Term.{lam, tm_cons}
use Rattle.iv_hsub.specs.Typing.{type_at}
use Rattle.iv_hsub.specs.Index.{loose, raise_head, raise, raise_all, is_bound, occurs, occurs_in, eta}
use Rattle.iv_hsub.proofs.Theory.{lt_cases, eq_true, eq_false, raise-low, raise-high, fun-parts}
use Rattle.iv_laws.specs.Spines.{functions}
use Rattle.iv_laws.proofs.Spined.{occurs-eta, nowhere-beyond}
use Rattle.iv_unify.specs.Values.{bind_index_head, bind_index, bind_index_all, abstracted, among, and_new, index_of, and_index, indices, common, agreeing, types_at, indexed}

differs : (n m : ℕ) → nat_eq n m ≡ false → n ≡ m → ⊥
differs n m h e = absurd (let bad : true ≡ false = sym (eq_true n m e) ∙ h in cc)

turned-false : (n m : ℕ) → nat_eq n m ≡ false → nat_eq m n ≡ false
turned-false n m h = eq_false m n (λ e. differs n m h (sym e))

-- an index that is bound, or wasn't there
Left : ℕ → ℕ → Bool → Type 0
Left i j b = (i ≡ j) ⊎ (b ≡ false)

head-gone : (i j k : ℕ) (h : Head) → k ≤ j → Left i j (is_bound j h) → is_bound (suc j) (bind_index_head i k h) ≡ false
unfolding Left
head-gone i j k (Const c a) p l = refl
head-gone i j k (Free x a) p l = refl
head-gone i j k (Schematic x a) p l = refl
head-gone i j k (Bound n) p l = go (nat_eq n i) refl l
  where
    go : (v : Bool) → nat_eq n i ≡ v → (i ≡ j) ⊎ (nat_eq n j ≡ false) → is_bound (suc j) (if v then Bound k else raise_head 1 k (Bound n)) ≡ false
    go true h q = eq_false k (suc j) (λ e. omega (arith, p, e))
    go false h q = at (lt_cases n k) q
      where
        at : ((n < k) × (nat_lt n k ≡ true)) ⊎ ((k ≤ n) × (nat_lt n k ≡ false)) → (i ≡ j) ⊎ (nat_eq n j ≡ false) → is_bound (suc j) (raise_head 1 k (Bound n)) ≡ false
        at (inl r) q = ap (is_bound (suc j)) (raise-low 1 k n r.0) ∙ eq_false n (suc j) (λ e. omega (arith, p, e, r.0))
        at (inr r) (inl q) = ap (is_bound (suc j)) (raise-high 1 k n r.0) ∙ eq_false (n + 1) (suc j) (λ e. differs n i h (omega (arith, q, e)))
        at (inr r) (inr q) = ap (is_bound (suc j)) (raise-high 1 k n r.0) ∙ eq_false (n + 1) (suc j) (λ e. differs n j q (omega (arith, e)))

left-first : (i j : ℕ) (x y : Bool) → Left i j (x || y) → Left i j x
unfolding Left
left-first i j x y (inl q) = inl q
left-first i j x y (inr q) = inr (or_parts x y q).0

left-second : (i j : ℕ) (x y : Bool) → Left i j (x || y) → Left i j y
unfolding Left
left-second i j x y (inl q) = inl q
left-second i j x y (inr q) = inr (or_parts x y q).1

left-under : (i j : ℕ) (x : Bool) → Left i j x → Left (suc i) (suc j) x
unfolding Left
left-under i j x (inl q) = inl (ap suc q)
left-under i j x (inr q) = inr q

mutual
  unfolding occurs bind_index

  bind-gone : (i j k : ℕ) (t : Term) → k ≤ j → Left i j (occurs j t) → occurs (suc j) (bind_index i k t) ≡ false
  bind-gone i j k (lam a b) p l = bind-gone (suc i) (suc j) (suc k) b (omega (arith, p)) (left-under i j (occurs (suc j) b) l)
  bind-gone i j k (Spine h ts) p l =
      let x = head-gone i j k h p (left-first i j (is_bound j h) (occurs_in j ts) l) in
      let y = bind-all_gone i j k ts p (left-second i j (is_bound j h) (occurs_in j ts) l) in
      λ z. x z || y z

  bind-all_gone : (i j k : ℕ) (ts : Terms) → k ≤ j → Left i j (occurs_in j ts) → occurs_in (suc j) (bind_index_all i k ts) ≡ false
  bind-all_gone i j k Nil p l = refl
  bind-all_gone i j k (tm_cons t ts) p l =
      let x = bind-gone i j k t p (left-first i j (occurs j t) (occurs_in j ts) l) in
      let y = bind-all_gone i j k ts p (left-second i j (occurs j t) (occurs_in j ts) l) in
      λ z. x z || y z

-- an abstraction has no index that it binds, and none that wasn't there
pub abstracted-gone : (is : List ℕ) (bs : Types) (t : Term) (j : ℕ) → (among j is ≡ true) ⊎ (occurs j t ≡ false) → occurs j (abstracted is bs t) ≡ false
unfolding abstracted Left
abstracted-gone [] bs t j (inl q) = absurd (let bad : false ≡ true = q in cc)
abstracted-gone [] bs t j (inr q) = q
abstracted-gone (i ∷ is) bs t j q =
    occurs-eta (type_at bs i) j (bind_index i 0 (abstracted is bs t))
    ∙ bind-gone i j 0 (abstracted is bs t) (omega arith) (go (nat_eq j i) refl (λ r. abstracted-gone is bs t j r) q)
  where
    go : (v : Bool) → nat_eq j i ≡ v → ((among j is ≡ true) ⊎ (occurs j t ≡ false) → occurs j (abstracted is bs t) ≡ false) → ((v || among j is) ≡ true) ⊎ (occurs j t ≡ false)
        → (i ≡ j) ⊎ (occurs j (abstracted is bs t) ≡ false)
    go true h rec r = inl (sym (eqb-true j i h))
    go false h rec r = inr (rec r)

pub abstracted-closed : (is : List ℕ) (bs : Types) (t : Term) → ((j : ℕ) → (among j is ≡ true) ⊎ (occurs j t ≡ false)) → loose (abstracted is bs t) ≤ 0
abstracted-closed is bs t k = nowhere-beyond 0 (abstracted is bs t) (λ j p q. abstracted-gone is bs t j (k j))

-- an index that isn't there is bound as by raising
head-absent : (i k : ℕ) (h : Head) → is_bound i h ≡ false → bind_index_head i k h ≡ raise_head 1 k h
head-absent i k (Const c a) q = refl
head-absent i k (Free x a) q = refl
head-absent i k (Schematic x a) q = refl
head-absent i k (Bound n) q = ap (λ v. if v then Bound k else raise_head 1 k (Bound n)) q

mutual
  unfolding occurs bind_index raise

  bind-absent : (i k : ℕ) (t : Term) → occurs i t ≡ false → bind_index i k t ≡ raise 1 k t
  bind-absent i k (lam a b) q = ap (λ z. lam a z) (bind-absent (suc i) (suc k) b q)
  bind-absent i k (Spine h ts) q =
      let r = or_parts (is_bound i h) (occurs_in i ts) q in
      let x = head-absent i k h r.0 in
      let y = bind-all_absent i k ts r.1 in
      λ z. Spine (x z) (y z)

  bind-all_absent : (i k : ℕ) (ts : Terms) → occurs_in i ts ≡ false → bind_index_all i k ts ≡ raise_all 1 k ts
  bind-all_absent i k Nil q = refl
  bind-all_absent i k (tm_cons t ts) q =
      let r = or_parts (occurs i t) (occurs_in i ts) q in
      let x = bind-absent i k t r.0 in
      let y = bind-all_absent i k ts r.1 in
      λ z. tm_cons (x z) (y z)

-- which indices are kept
or-later : (x y z : Bool) → (y ≡ true → z ≡ true) → (x || y) ≡ true → (x || z) ≡ true
or-later true y z k q = refl
or-later false y z k q = k q

or-right : (x y : Bool) → y ≡ true → (x || y) ≡ true
or-right true y q = refl
or-right false y q = q

pub common-left : (is js : List ℕ) (n : ℕ) → among n (common is js) ≡ true → among n is ≡ true
unfolding common
common-left [] js n q = q
common-left (i ∷ is) js n q = go (among i js) (λ r. common-left is js n r) q
  where
    go : (v : Bool) → (among n (common is js) ≡ true → among n is ≡ true) → among n (if v then i ∷ common is js else common is js) ≡ true → (nat_eq n i || among n is) ≡ true
    go true rec r = or-later (nat_eq n i) (among n (common is js)) (among n is) rec r
    go false rec r = or-right (nat_eq n i) (among n is) (rec r)

or-cases : (x y : Bool) → (x || y) ≡ true → (x ≡ true) ⊎ (y ≡ true)
or-cases true y q = inl refl
or-cases false y q = inr q

pub common-right : (is js : List ℕ) (n : ℕ) → among n (common is js) ≡ true → among n js ≡ true
unfolding common
common-right [] js n q = absurd (let bad : false ≡ true = q in cc)
common-right (i ∷ is) js n q = go (among i js) refl (λ r. common-right is js n r) q
  where
    which : (among i js ≡ true) → (among n (common is js) ≡ true → among n js ≡ true) → (nat_eq n i ≡ true) ⊎ (among n (common is js) ≡ true) → among n js ≡ true
    which h rec (inl e) = ap (λ z. among z js) (eqb-true n i e) ∙ h
    which h rec (inr e) = rec e

    go : (v : Bool) → among i js ≡ v → (among n (common is js) ≡ true → among n js ≡ true) → among n (if v then i ∷ common is js else common is js) ≡ true → among n js ≡ true
    go true h rec r = which h rec (or-cases (nat_eq n i) (among n (common is js)) r)
    go false h rec r = rec r

pub agreeing-left : (is js : List ℕ) (n : ℕ) → among n (agreeing is js) ≡ true → among n is ≡ true
unfolding agreeing
agreeing-left [] js n q = q
agreeing-left (i ∷ is) [] n q = absurd (let bad : false ≡ true = q in cc)
agreeing-left (i ∷ is) (j ∷ js) n q = go (nat_eq i j) (λ r. agreeing-left is js n r) q
  where
    go : (v : Bool) → (among n (agreeing is js) ≡ true → among n is ≡ true) → among n (if v then i ∷ agreeing is js else agreeing is js) ≡ true → (nat_eq n i || among n is) ≡ true
    go true rec r = or-later (nat_eq n i) (among n (agreeing is js)) (among n is) rec r
    go false rec r = or-right (nat_eq n i) (among n is) (rec r)

pub agreeing-right : (is js : List ℕ) (n : ℕ) → among n (agreeing is js) ≡ true → among n js ≡ true
unfolding agreeing
agreeing-right [] js n q = absurd (let bad : false ≡ true = q in cc)
agreeing-right (i ∷ is) [] n q = absurd (let bad : false ≡ true = q in cc)
agreeing-right (i ∷ is) (j ∷ js) n q = go (nat_eq i j) refl (λ r. agreeing-right is js n r) q
  where
    go : (v : Bool) → nat_eq i j ≡ v → (among n (agreeing is js) ≡ true → among n js ≡ true) → among n (if v then i ∷ agreeing is js else agreeing is js) ≡ true → (nat_eq n j || among n js) ≡ true
    go true h rec r = ap (λ z. nat_eq n z || among n js) (sym (eqb-true i j h)) ∙ or-later (nat_eq n i) (among n (agreeing is js)) (among n js) rec r
    go false h rec r = or-right (nat_eq n j) (among n js) (rec r)

-- indices as terms
pub indexed-among : (n : ℕ) (is : List ℕ) → (among n is ≡ true) ⊎ (occurs_in n (indexed is) ≡ false)
unfolding indexed occurs
indexed-among n [] = inr refl
indexed-among n (i ∷ is) = go (nat_eq n i) refl (indexed-among n is)
  where
    go : (v : Bool) → nat_eq n i ≡ v → (among n is ≡ true) ⊎ (occurs_in n (indexed is) ≡ false) → ((v || among n is) ≡ true) ⊎ (((nat_eq i n || false) || occurs_in n (indexed is)) ≡ false)
    go true h r = inl refl
    go false h (inl r) = inl r
    go false h (inr r) = inr (let e = turned-false n i h in λ z. (e z || false) || r z)

-- distinct indices
unfoldable pub AreApart : List ℕ → Type 0
AreApart [] = Unit {0}
AreApart (i ∷ is) = (among i is ≡ false) × AreApart is

some-list : (x y : List ℕ) → Some x ≡ Some y → x ≡ y
some-list x y e = cc

new-apart : (i : ℕ) (o : Option (List ℕ)) (is : List ℕ) → ((js : List ℕ) → o ≡ Some js → AreApart js) → and_new i o ≡ Some is → AreApart is
unfolding AreApart
new-apart i None is k q = absurd (let bad : None ≡ Some is = q in cc)
new-apart i (Some js) is k q = go (among i js) refl q
  where
    go : (v : Bool) → among i js ≡ v → (if v then None else Some (i ∷ js)) ≡ Some is → AreApart is
    go true h r = absurd (let bad : None ≡ Some is = r in cc)
    go false h r = subst AreApart (some-list (i ∷ js) is r) (h, k js refl)

pub indices-apart : (ts : Terms) (is : List ℕ) → indices ts ≡ Some is → AreApart is
unfolding AreApart indices
indices-apart Nil is q = subst AreApart (some-list [] is q) tt
indices-apart (tm_cons t ts) is q = go (index_of t) (λ js r. indices-apart ts js r) q
  where
    go : (o : Option ℕ) → ((js : List ℕ) → indices ts ≡ Some js → AreApart js) → and_index o (indices ts) ≡ Some is → AreApart is
    go None rec h = absurd (let bad : None ≡ Some is = h in cc)
    go (Some i) rec h = new-apart i (indices ts) is rec h

-- an index of a term is kept in equal places of both lists, or is in none of them
abbrev Placed : List ℕ → List ℕ → Term → ℕ → Type 0
Placed is js t n = (occurs n t ≡ false) ⊎ ((among n (agreeing is js) ≡ true) ⊎ ((among n is ≡ false) × (among n js ≡ false)))

placed-rest : (i j : ℕ) (is js : List ℕ) (t : Term) (n : ℕ) → among i is ≡ false → among j js ≡ false → Placed (i ∷ is) (j ∷ js) t n → Placed is js t n
unfolding agreeing
placed-rest i j is js t n p q (inl r) = inl r
placed-rest i j is js t n p q (inr (inr r)) = inr (inr ((or_parts (nat_eq n i) (among n is) r.0).1, (or_parts (nat_eq n j) (among n js) r.1).1))
placed-rest i j is js t n p q (inr (inl r)) = go (nat_eq i j) refl r
  where
    which : i ≡ j → (nat_eq n i ≡ true) ⊎ (among n (agreeing is js) ≡ true) → Placed is js t n
    which e (inl h) = let m = eqb-true n i h in inr (inr (ap (λ z. among z is) m ∙ p, ap (λ z. among z js) (m ∙ e) ∙ q))
    which e (inr h) = inr (inl h)

    go : (v : Bool) → nat_eq i j ≡ v → among n (if v then i ∷ agreeing is js else agreeing is js) ≡ true → Placed is js t n
    go true h k = which (eqb-true i j h) (or-cases (nat_eq n i) (among n (agreeing is js)) k)
    go false h k = inr (inl k)

placed-left : (i j : ℕ) (is js : List ℕ) (t : Term) → nat_eq i j ≡ false → Placed (i ∷ is) (j ∷ js) t i → (among i is ≡ true) ⊎ (occurs i t ≡ false)
unfolding agreeing
placed-left i j is js t h (inl r) = inr r
placed-left i j is js t h (inr (inl r)) = inl (agreeing-left is js i (sym (ap (λ v. among i (if v then i ∷ agreeing is js else agreeing is js)) h) ∙ r))
placed-left i j is js t h (inr (inr r)) = absurd (let bad : true ≡ false = sym (eq_true i i refl) ∙ (or_parts (nat_eq i i) (among i is) r.0).0 in cc)

placed-right : (i j : ℕ) (is js : List ℕ) (t : Term) → nat_eq i j ≡ false → Placed (i ∷ is) (j ∷ js) t j → (among j js ≡ true) ⊎ (occurs j t ≡ false)
unfolding agreeing
placed-right i j is js t h (inl r) = inr r
placed-right i j is js t h (inr (inl r)) = inl (agreeing-right is js j (sym (ap (λ v. among j (if v then i ∷ agreeing is js else agreeing is js)) h) ∙ r))
placed-right i j is js t h (inr (inr r)) = absurd (let bad : true ≡ false = sym (eq_true j j refl) ∙ (or_parts (nat_eq j j) (among j js) r.1).0 in cc)

pub same-abstracted : (is js : List ℕ) (bs : Types) (c : Typ) (t : Term) → ((a b : Typ) → c ≡ fun a b → ⊥) → AreApart is → AreApart js
    → functions (types_at bs is) c ≡ functions (types_at bs js) c → ((n : ℕ) → Placed is js t n) → abstracted is bs t ≡ abstracted js bs t
unfolding AreApart abstracted types_at functions
same-abstracted [] [] bs c t plain p q e k = refl
same-abstracted [] (j ∷ js) bs c t plain p q e k = absurd (plain (type_at bs j) (functions (types_at bs js) c) e)
same-abstracted (i ∷ is) [] bs c t plain p q e k = absurd (plain (type_at bs i) (functions (types_at bs is) c) (sym e))
same-abstracted (i ∷ is) (j ∷ js) bs c t plain p q e k =
    let f = fun-parts (type_at bs i) (functions (types_at bs is) c) (type_at bs j) (functions (types_at bs js) c) e in
    let w = same-abstracted is js bs c t plain p.1 q.1 f.1 (λ n. placed-rest i j is js t n p.0 q.0 (k n)) in
    go (nat_eq i j) refl f.0 w
  where
    go : (v : Bool) → nat_eq i j ≡ v → type_at bs i ≡ type_at bs j → abstracted is bs t ≡ abstracted js bs t
        → eta (type_at bs i) (bind_index i 0 (abstracted is bs t)) ≡ eta (type_at bs j) (bind_index j 0 (abstracted js bs t))
    go true h a w = let n = eqb-true i j h in λ z. eta (a z) (bind_index (n z) 0 (w z))
    go false h a w =
        let x = bind-absent i 0 (abstracted is bs t) (abstracted-gone is bs t i (placed-left i j is js t h (k i))) in
        let y = bind-absent j 0 (abstracted js bs t) (abstracted-gone js bs t j (placed-right i j is js t h (k j))) in
        ap (eta (type_at bs i)) x ∙ (λ z. eta (a z) (raise 1 0 (w z))) ∙ ap (eta (type_at bs j)) (sym y)
