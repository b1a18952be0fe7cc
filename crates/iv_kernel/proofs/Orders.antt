-- Subgoals in another order: the same subgoals, and hypotheses that are discharged in any order.
use Rattle.std.proofs.Common.{◌≡◌, ℕ, zero, suc, ◌⊎◌, inl, inr, List, [], ◌∷◌, ◌++◌, length, ◌<◌, arith, true, false, Result, Ok, Err, IfOk, refl, sym, ◌∙◌, ap, subst}
use Rattle.std.specs.Prelude.{slice_get, Option, Some, None, if◌then◌else◌}
use Rattle.std.specs.List.{AllByRecursion}
use Rattle.iv_text.specs.declared.want.Want.{Want}
use Rattle.iv_term.specs.declared.term.Term.{Term}
use Rattle.iv_term.specs.declared.term.Terms.{Terms}
use Rattle.iv_term.specs.declared.term.Term.TheBlock.{Nil}
use Rattle.iv_term.specs.Term.{tm_cons, imp, antecedent, consequent, IsImplication, same_term}
use Rattle.iv_term.specs.Hyps.{among, snoc, added, union, without}
use Rattle.iv_hsub.specs.Hhf.{one}
use Rattle.iv_rules.specs.Sequent.{IsProp, AreProps}
use Rattle.std.proofs.lemmas.List.{append-nil}
use Rattle.iv_rules.specs.declared.derivation.Derivation.{Derivation}
use Rattle.iv_rules.specs.declared.derivation.Derivation.TheBlock.{Assume}
use Rattle.iv_rules.specs.Derivation.{imp_intr, imp_elim}
use Rattle.iv_rules.specs.Rules.{Proved, axioms_of}
use Rattle.iv_rules.specs.Laws.{ImpIsProp, SameIsEqual}
use Rattle.iv_kernel.specs.Goal.{goal_prop, premises_of, IsGoalProp, AreInForm, IsGoal, OpenGoal}
use Rattle.iv_kernel.specs.Order.{removed, inserted, listed, IsIn, AreIn}

-- premises as a list of terms
pub premises-none : (n : ℕ) (p : Term) → n ≡ 0 → listed Nil ≡ premises_of n p
unfolding listed premises_of
premises-none n p e = rw e refl

pub premises-more : (n m : ℕ) (p : Term) (ts : Terms) → n ≡ suc m → listed ts ≡ premises_of m (consequent p) → listed (tm_cons (antecedent p) ts) ≡ premises_of n p
unfolding listed premises_of
premises-more n m p ts e h = rw e (ap (λ z. antecedent p ∷ z) h)

-- what a call that builds the list answers
pub built : (r : Result Terms Want) (ts : Terms) (xs : List Term) → IfOk r (λ z. z ≡ ts) → listed ts ≡ xs → IfOk r (λ z. listed z ≡ xs)
built (Ok z) ts xs h e = ap listed h ∙ e
built (Err w) ts xs h e = tt

-- one taken away, and one put in
pub removed-none : (k : ℕ) → listed Nil ≡ removed k (listed Nil)
unfolding listed removed
removed-none k = refl

pub removed-first : (k : ℕ) (t : Term) (ts : Terms) → k ≡ 0 → listed ts ≡ removed k (listed (tm_cons t ts))
unfolding listed removed
removed-first k t ts e = rw e refl

pub removed-later : (k j : ℕ) (t : Term) (ts us : Terms) → k ≡ suc j → listed us ≡ removed j (listed ts) → listed (tm_cons t us) ≡ removed k (listed (tm_cons t ts))
unfolding listed removed
removed-later k j t ts us e h = rw e (ap (λ z. t ∷ z) h)

pub inserted-first : (k : ℕ) (t : Term) (ts : Terms) → k ≡ 0 → listed (tm_cons t ts) ≡ inserted k t (listed ts)
unfolding listed inserted
inserted-first k t ts e = rw e refl

pub inserted-last : (k j : ℕ) (t : Term) → k ≡ suc j → listed (one t) ≡ inserted k t (listed Nil)
unfolding listed inserted
inserted-last k j t e = rw e refl

pub inserted-later : (k j : ℕ) (t u : Term) (ts us : Terms) → k ≡ suc j → listed us ≡ inserted j t (listed ts) → listed (tm_cons u us) ≡ inserted k t (listed (tm_cons u ts))
unfolding listed inserted
inserted-later k j t u ts us e h = rw e (ap (λ z. u ∷ z) h)

-- a goal's proposition has its subgoals as premises
pub goal-premises : (ss : List Term) (c : Term) → premises_of (length ss) (goal_prop ss c) ≡ ss
unfolding premises_of goal_prop
goal-premises [] c = refl
goal-premises (s ∷ ss) c = ap (λ z. s ∷ z) (goal-premises ss c)

-- the same items in another order
get : Term → Option Term → Term
get d None = d
get d (Some x) = x

pub some-same : (x y : Term) → Some x ≡ Some y → x ≡ y
unfolding get
some-same x y e = ap (get x) e

in-here : (x : Term) (j : ℕ) (ys : List Term) → IsIn x (inserted j x ys)
unfolding inserted
in-here x zero ys = inl refl
in-here x (suc j) [] = inl refl
in-here x (suc j) (y ∷ ys) = inr (in-here x j ys)

in-there : (y x : Term) (j : ℕ) (ys : List Term) → IsIn y ys → IsIn y (inserted j x ys)
unfolding inserted
in-there y x zero ys h = inr h
in-there y x (suc j) [] h = absurd h
in-there y x (suc j) (z ∷ ys) (inl e) = inl e
in-there y x (suc j) (z ∷ ys) (inr h) = inr (in-there y x j ys h)

-- an item is the one that is taken away, or stays
in-removed : (y x : Term) (i : ℕ) (xs : List Term) → slice_get xs i ≡ Some x → IsIn y xs → (y ≡ x) ⊎ IsIn y (removed i xs)
unfolding removed
in-removed y x i [] g h = absurd h
in-removed y x zero (z ∷ xs) g (inl e) = inl (e ∙ some-same z x g)
in-removed y x zero (z ∷ xs) g (inr h) = inr h
in-removed y x (suc i) (z ∷ xs) g (inl e) = inr (inl e)
in-removed y x (suc i) (z ∷ xs) g (inr h) =
    elim (in-removed y x i xs g h) as (λ _. (y ≡ x) ⊎ ((y ≡ z) ⊎ IsIn y (removed i xs))) [ inl e ↦ inl e | inr k ↦ inr (inr k) ]

in-moved : (y x : Term) (i j : ℕ) (xs : List Term) → slice_get xs i ≡ Some x → IsIn y xs → IsIn y (inserted j x (removed i xs))
in-moved y x i j xs g h =
    elim (in-removed y x i xs g h) as (λ _. IsIn y (inserted j x (removed i xs))) [
      | inl e ↦ subst (λ z. IsIn z (inserted j x (removed i xs))) (sym e) (in-here x j (removed i xs))
      | inr k ↦ in-there y x j (removed i xs) k
    ]

-- what holds of each holds of each in the new order
module _ (P : Term → Type 0) where
  holds-inserted : (x : Term) (j : ℕ) (ys : List Term) → P x → AllByRecursion P ys → AllByRecursion P (inserted j x ys)
  unfolding inserted
  holds-inserted x zero ys p h = (p, h)
  holds-inserted x (suc j) [] p h = (p, tt)
  holds-inserted x (suc j) (y ∷ ys) p h = (h.0, holds-inserted x j ys p h.1)

  holds-removed : (i : ℕ) (xs : List Term) → AllByRecursion P xs → AllByRecursion P (removed i xs)
  unfolding removed
  holds-removed i [] h = tt
  holds-removed zero (x ∷ xs) h = h.1
  holds-removed (suc i) (x ∷ xs) h = (h.0, holds-removed i xs h.1)

  holds-at : (x : Term) (i : ℕ) (xs : List Term) → slice_get xs i ≡ Some x → AllByRecursion P xs → P x
  holds-at x i [] g h = absurd (let bad : None ≡ Some x = g in cc)
  holds-at x zero (y ∷ xs) g h = subst P (some-same y x g) h.0
  holds-at x (suc i) (y ∷ xs) g h = holds-at x i xs g h.1

  pub holds-moved : (x : Term) (i j : ℕ) (xs : List Term) → slice_get xs i ≡ Some x → AllByRecursion P xs → AllByRecursion P (inserted j x (removed i xs))
  holds-moved x i j xs g h = holds-inserted x j (removed i xs) (holds-at x i xs g h) (holds-removed i xs h)

length-inserted : (x : Term) (j : ℕ) (ys : List Term) → length (inserted j x ys) ≡ suc (length ys)
unfolding inserted
length-inserted x zero ys = refl
length-inserted x (suc j) [] = refl
length-inserted x (suc j) (y ∷ ys) = ap suc (length-inserted x j ys)

length-removed : (x : Term) (i : ℕ) (xs : List Term) → slice_get xs i ≡ Some x → suc (length (removed i xs)) ≡ length xs
unfolding removed
length-removed x i [] g = absurd (let bad : None ≡ Some x = g in cc)
length-removed x zero (y ∷ xs) g = refl
length-removed x (suc i) (y ∷ xs) g = ap suc (length-removed x i xs g)

pub length-moved : (x : Term) (i j : ℕ) (xs : List Term) → slice_get xs i ≡ Some x → length (inserted j x (removed i xs)) ≡ length xs
length-moved x i j xs g = length-inserted x j (removed i xs) ∙ length-removed x i xs g

-- hypotheses that are in a list
pub in-all : (hs : Terms) (xs ys : List Term) → ((z : Term) → IsIn z xs → IsIn z ys) → AreIn hs xs → AreIn hs ys
in-all Nil xs ys f h = tt
in-all (tm_cons t ts) xs ys f h = (f t h.0, in-all ts xs ys f h.1)

in-snoc : (hs : Terms) (t : Term) (ys : List Term) → AreIn hs ys → IsIn t ys → AreIn (snoc hs t) ys
unfolding snoc
in-snoc Nil t ys h k = (k, tt)
in-snoc (tm_cons u us) t ys h k = (h.0, in-snoc us t ys h.1 k)

in-added : (hs : Terms) (t : Term) (ys : List Term) → AreIn hs ys → IsIn t ys → AreIn (added hs t) ys
unfolding added
in-added hs t ys h k = elim (among t hs) as (λ b. AreIn (if b then hs else snoc hs t) ys) [ true ↦ h | false ↦ in-snoc hs t ys h k ]

pub in-union : (ks hs : Terms) (ys : List Term) → AreIn hs ys → AreIn ks ys → AreIn (union hs ks) ys
unfolding union
in-union Nil hs ys h k = h
in-union (tm_cons t ts) hs ys h k = in-union ts (added hs t) ys (in-added hs t ys h k.0) k.1

other : (t u : Term) (ys : List Term) → (t ≡ u → ⊥) → IsIn u (t ∷ ys) → IsIn u ys
other t u ys d (inl e) = absurd (d (sym e))
other t u ys d (inr h) = h

pub in-without : SameIsEqual → (t : Term) (hs : Terms) (ys : List Term) → AreIn hs (t ∷ ys) → AreIn (without t hs) ys
unfolding without
in-without same t Nil ys h = tt
in-without same t (tm_cons u us) ys h =
    elim (same_term t u) as (λ b. same_term t u ≡ b → AreIn (if b then without t us else tm_cons u (without t us)) ys) [
      | true ↦ λ e. in-without same t us ys h.1
      | false ↦ λ e. (other t u ys (λ q. let bad : false ≡ true = sym e ∙ (same t u).1 q in cc) h.0, in-without same t us ys h.1)
    ] refl

-- in two lists, where one is in front of the other
in-left : (x : Term) (xs ys : List Term) → IsIn x xs → IsIn x (xs ++ ys)
in-left x [] ys h = absurd h
in-left x (z ∷ xs) ys (inl e) = inl e
in-left x (z ∷ xs) ys (inr h) = inr (in-left x xs ys h)

in-right : (x : Term) (xs ys : List Term) → IsIn x ys → IsIn x (xs ++ ys)
in-right x [] ys h = h
in-right x (z ∷ xs) ys h = inr (in-right x xs ys h)

in-middle : (x t : Term) (xs ys : List Term) → IsIn x (xs ++ ys) → IsIn x (xs ++ (t ∷ ys))
in-middle x t [] ys h = inr h
in-middle x t (z ∷ xs) ys (inl e) = inl e
in-middle x t (z ∷ xs) ys (inr h) = inr (in-middle x t xs ys h)

pub in-shifted : (x t : Term) (xs ys : List Term) → IsIn x (t ∷ (xs ++ ys)) → IsIn x (xs ++ (t ∷ ys))
in-shifted x t xs ys (inl e) = in-right x xs (t ∷ ys) (inl e)
in-shifted x t xs ys (inr h) = in-middle x t xs ys h

-- hypotheses are in their own list, and in any that ends with it
in-more : (t : Term) (hs : Terms) (ys : List Term) → AreIn hs ys → AreIn hs (t ∷ ys)
in-more t Nil ys h = tt
in-more t (tm_cons u us) ys h = (inr h.0, in-more t us ys h.1)

in-itself : (hs : Terms) → AreIn hs (listed hs)
unfolding listed
in-itself Nil = tt
in-itself (tm_cons t ts) = (inl refl, in-more t ts (listed ts) (in-itself ts))

pub in-behind : (hs : Terms) (xs : List Term) → AreIn hs (xs ++ listed hs)
in-behind hs xs = in-all hs (listed hs) (xs ++ listed hs) (λ z h. in-right z xs (listed hs) h) (in-itself hs)

-- each subgoal is in the new order
in-each : (xs ys : List Term) → ((z : Term) → IsIn z xs → IsIn z ys) → AllByRecursion (λ z. IsIn z ys) xs
in-each [] ys f = tt
in-each (x ∷ xs) ys f = (f x (inl refl), in-each xs ys (λ z h. f z (inr h)))

pub each-moved : (x : Term) (i j : ℕ) (xs ys : List Term) → slice_get xs i ≡ Some x → AllByRecursion (λ z. IsIn z (inserted j x (removed i xs) ++ ys)) xs
each-moved x i j xs ys g = in-each xs (inserted j x (removed i xs) ++ ys) (λ z h. in-left z (inserted j x (removed i xs)) ys (in-moved z x i j xs g h))

-- subgoals are propositions
pub subgoals-are : ImpIsProp → (ss : List Term) (c : Term) → IsProp (goal_prop ss c) → AllByRecursion IsProp ss
unfolding goal_prop
subgoals-are imps [] c h = tt
subgoals-are imps (s ∷ ss) c h = let p = (imps s (goal_prop ss c)).0 h in (p.0, subgoals-are imps ss c p.1)

pub listed-props : (ts : Terms) → AllByRecursion IsProp (listed ts) → AreProps ts
unfolding listed AreProps
listed-props Nil h = tt
listed-props (tm_cons t ts) h = (h.0, listed-props ts h.1)

-- what is known of a call's theorem
pub part-is : {X : Type 0} (r : Result Proved Want) (f : Proved → X) (t : Proved) (x : X) → IfOk r (λ z. z ≡ t) → f t ≡ x → IfOk r (λ z. f z ≡ x)
part-is (Ok z) f t x h e = ap f h ∙ e
part-is (Err w) f t x h e = tt

pub hyps-in : (r : Result Proved Want) (hs : Terms) (ts : List Term) → IfOk r (λ z. z.hyps ≡ hs) → AreIn hs ts → IfOk r (λ z. AreIn z.hyps ts)
hyps-in (Ok z) hs ts h k = subst (λ x. AreIn x ts) (sym h) k
hyps-in (Err w) hs ts h k = tt

pub goal-in : (r : Result OpenGoal Want) (t : Proved) (ys : List Term) → IfOk r (λ g. g.thm ≡ t) → AreIn t.hyps ys → IfOk r (λ g. AreIn g.thm.hyps ys)
goal-in (Ok g) t ys h k = subst (λ x. AreIn x.hyps ys) (sym h) k
goal-in (Err w) t ys h k = tt

pub axioms-are : (r : Result Proved Want) (d : Derivation) (xs : List (List ℕ × Term)) → IfOk r (λ z. z.derivation ≡ d) → axioms_of d ≡ xs → IfOk r (λ z. axioms_of z.derivation ≡ xs)
axioms-are (Ok z) d xs h e = ap axioms_of h ∙ e
axioms-are (Err w) d xs h e = tt

-- a goal's proposition, where a premise is left
pub goal-implies : (n m : ℕ) (p c : Term) → n ≡ suc m → IsGoalProp n p c → IsImplication p
unfolding goal_prop premises_of
goal-implies n m p c e h = let k : IsGoalProp (suc m) p c = subst (λ z. IsGoalProp z p c) e h in k ∙ ap (imp (antecedent p)) (sym (ap consequent k))

pub goal-rest : (n m : ℕ) (p c : Term) → n ≡ suc m → IsGoalProp n p c → IsGoalProp m (consequent p) c
unfolding goal_prop premises_of
goal-rest n m p c e h = let k : IsGoalProp (suc m) p c = subst (λ z. IsGoalProp z p c) e h in ap consequent k

pub goal-claim : (n : ℕ) (p c : Term) → n ≡ 0 → IsGoalProp n p c → p ≡ c
unfolding goal_prop premises_of
goal-claim n p c e h = let k : IsGoalProp 0 p c = subst (λ z. IsGoalProp z p c) e h in k

pub first-is : ImpIsProp → (p : Term) → IsImplication p → IsProp p → IsProp (antecedent p)
first-is imps p e h = ((imps (antecedent p) (consequent p)).0 (subst IsProp e h)).0

pub each-first : (P : Term → Type 0) (n m : ℕ) (p : Term) → n ≡ suc m → AllByRecursion P (premises_of n p) → P (antecedent p) × AllByRecursion P (premises_of m (consequent p))
unfolding premises_of
each-first P n m p e h = let k : AllByRecursion P (premises_of (suc m) p) = subst (λ z. AllByRecursion P (premises_of z p)) e h in k

-- what steps rest on
pub elim-axioms : (d e f : Derivation) (a : Term) → d ≡ imp_elim e f → f ≡ Assume a → axioms_of d ≡ axioms_of e
unfolding axioms_of
elim-axioms d e f a h k = rw (h, k) (append-nil (axioms_of e))

pub intr-axioms : (d e : Derivation) (a : Term) → d ≡ imp_intr a e → axioms_of d ≡ axioms_of e
unfolding axioms_of
intr-axioms d e a h = rw h refl

-- discharging, step by step
pub none-discharged : (p : Term) → p ≡ goal_prop (listed Nil) p
unfolding goal_prop listed
none-discharged p = refl

pub one-discharged : (t : Term) (ts : Terms) (p : Term) → imp t (goal_prop (listed ts) p) ≡ goal_prop (listed (tm_cons t ts)) p
unfolding goal_prop listed
one-discharged t ts p = refl

pub listed-none : (hs : Terms) (ys : List Term) → AreIn hs (listed Nil ++ ys) → AreIn hs ys
unfolding listed
listed-none hs ys h = h

pub listed-more : (t : Term) (ts hs : Terms) (ys : List Term) → AreIn hs (listed (tm_cons t ts) ++ ys) → AreIn hs (listed ts ++ (t ∷ ys))
unfolding listed
listed-more t ts hs ys h = in-all hs (t ∷ (listed ts ++ ys)) (listed ts ++ (t ∷ ys)) (λ x. in-shifted x t (listed ts) ys) h

pub listed-shorter : (t : Term) (ts : Terms) → length (listed ts) < length (listed (tm_cons t ts))
unfolding listed
listed-shorter t ts = omega arith

pub props-first : (t : Term) (ts : Terms) → AreProps (tm_cons t ts) → IsProp t
unfolding AreProps
props-first t ts h = h.0

pub props-rest : (t : Term) (ts : Terms) → AreProps (tm_cons t ts) → AreProps ts
unfolding AreProps
props-rest t ts h = h.1

-- a proposition made from subgoals is that of a goal with them
pub goal-is : (ss : List Term) (c p : Term) → p ≡ goal_prop ss c → IsGoalProp (length ss) p c
goal-is ss c p e = e ∙ ap (λ z. goal_prop z c) (sym (goal-premises ss c) ∙ ap (premises_of (length ss)) (sym e))

pub premises-are : (ss : List Term) (c p : Term) (n : ℕ) → n ≡ length ss → p ≡ goal_prop ss c → premises_of n p ≡ ss
premises-are ss c p n l e = (λ i. premises_of (l i) (e i)) ∙ goal-premises ss c

pub goal-of : (ss : List Term) (c p : Term) (n : ℕ) → n ≡ length ss → p ≡ goal_prop ss c → IsGoalProp n p c
goal-of ss c p n l e = subst (λ z. IsGoalProp z p c) (sym l) (goal-is ss c p e)

pub formed : (ss : List Term) (c p : Term) (n : ℕ) → n ≡ length ss → p ≡ goal_prop ss c → AreInForm ss → IsGoal n p c
formed ss c p n l e f = (goal-of ss c p n l e, subst AreInForm (sym (premises-are ss c p n l e)) f)
