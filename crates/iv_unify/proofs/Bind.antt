-- Abstraction over a bound variable gives a function of its type, which at the variable is the term.
use Rattle.std.proofs.Common.{◌≡◌, ℕ, suc, ◌+◌, ◌<◌, ◌≤◌, Bool, true, false, not, ◌&&◌, ◌||◌, ◌⊎◌, inl, inr, nat_eq, if◌then◌else◌, List, [], ◌∷◌, eqb-true, refl, sym, ◌∙◌, ap, subst, arith}
use Rattle.iv_term.specs.declared.typ.Typ.{Typ}
use Rattle.iv_term.specs.declared.typ.Types.{Types}
use Rattle.iv_term.specs.declared.typ.Typ.TheBlock.{Nil as no_types}
use Rattle.iv_term.specs.declared.term.Head.{Head}
use Rattle.iv_term.specs.declared.term.Head.TheVariants.{Const, Free, Schematic, Bound}
use Rattle.iv_term.specs.declared.term.Term.{Term}
use Rattle.iv_term.specs.declared.term.Terms.{Terms}
use Rattle.iv_term.specs.declared.term.Term.TheBlock.{Spine, Nil}
use Rattle.iv_term.specs.Typ.{fun, ty_cons}
use Rattle.iv_term.specs.Term.{lam, tm_cons, is_nil}
use Rattle.iv_hsub.specs.Typing.{cod, types_len, type_at, join, head_type, result_type, type_of, IsHead, IsTerm, AreArgs, HasType}
use Rattle.iv_hsub.specs.Index.{index, raise_head, raise, is_bound, occurs, occurs_in, is_index_0, ends_in_0, front, contracts, eta}
use Rattle.iv_hsub.specs.Hsub.{append, put_head, put, put_all, happ}
use Rattle.iv_hsub.specs.Inst.{HeadVars, Vars, AllVars}
use Rattle.iv_hsub.proofs.Terms.Base.{eq_false, types_len-join, type_at-here, cod-fun}
use Rattle.iv_hsub.proofs.Terms.Raise.{raise-high, is_bound-raise, head_type-raise, IsHead-raise}
use Rattle.iv_hsub.proofs.Theory.{eta-short, IsTerm-eta, happ-nil, happ-spine, happ-eta, put-here}
use Rattle.iv_hsub.proofs.Terms.Cancel.{put_head-cancel}
use Rattle.iv_laws.specs.Spines.{functions}
use Rattle.iv_put.proofs.Theory.{vars-eta}
use Rattle.iv_unify.specs.Values.{bind_index_head, bind_index, bind_index_all, abstracted, types_at, indexed}

-- the index becomes that of the new binder, any other head is raised
bind-cases : (i k : ℕ) (h : Head) → ((h ≡ Bound i) × (bind_index_head i k h ≡ Bound k)) ⊎ (bind_index_head i k h ≡ raise_head 1 k h)
bind-cases i k (Bound n) = go (nat_eq n i) refl
  where
    go : (v : Bool) → nat_eq n i ≡ v → ((Bound n ≡ Bound i) × ((if v then Bound k else raise_head 1 k (Bound n)) ≡ Bound k)) ⊎ ((if v then Bound k else raise_head 1 k (Bound n)) ≡ raise_head 1 k (Bound n))
    go true e = inl (ap Bound (eqb-true n i e), refl)
    go false e = inr refl
bind-cases i k (Const c a) = inr refl
bind-cases i k (Free x a) = inr refl
bind-cases i k (Schematic x a) = inr refl

is_nil-bind : (i k : ℕ) (ts : Terms) → is_nil (bind_index_all i k ts) ≡ is_nil ts
unfolding bind_index_all
is_nil-bind i k Nil = refl
is_nil-bind i k (tm_cons t ts) = refl

result-bind : (i k : ℕ) (c : Typ) (ts : Terms) → result_type c (bind_index_all i k ts) ≡ result_type c ts
unfolding bind_index_all result_type
result-bind i k c Nil = refl
result-bind i k c (tm_cons t ts) = result-bind i k (cod c) ts

front-bind : (i k : ℕ) (ts : Terms) → front (bind_index_all i k ts) ≡ bind_index_all i k (front ts)
unfolding bind_index_all front
front-bind i k Nil = refl
front-bind i k (tm_cons t Nil) = refl
front-bind i k (tm_cons t (tm_cons u us)) = ap (λ w. tm_cons (bind_index i k t) w) (front-bind i k (tm_cons u us))

is_bound-bind : (i k j : ℕ) (h : Head) → k ≤ i → j < k → is_bound j (bind_index_head i k h) ≡ is_bound j h
is_bound-bind i k j h p q = go (bind-cases i k h)
  where
    go : ((h ≡ Bound i) × (bind_index_head i k h ≡ Bound k)) ⊎ (bind_index_head i k h ≡ raise_head 1 k h) → is_bound j (bind_index_head i k h) ≡ is_bound j h
    go (inl r) = ap (is_bound j) r.1 ∙ eq_false k j (λ e. omega (arith, q, e)) ∙ sym (ap (is_bound j) r.0 ∙ eq_false i j (λ e. omega (arith, p, q, e)))
    go (inr r) = ap (is_bound j) r ∙ is_bound-raise 1 k j h q

mutual
  unfolding occurs bind_index

  occurs-bind : (i k j : ℕ) (t : Term) → k ≤ i → j < k → occurs j (bind_index i k t) ≡ occurs j t
  occurs-bind i k j (lam b t) p q = occurs-bind (suc i) (suc k) (suc j) t (omega (arith, p)) (omega (arith, q))
  occurs-bind i k j (Spine h ts) p q = λ z. is_bound-bind i k j h p q z || occurs_in-bind i k j ts p q z

  occurs_in-bind : (i k j : ℕ) (ts : Terms) → k ≤ i → j < k → occurs_in j (bind_index_all i k ts) ≡ occurs_in j ts
  occurs_in-bind i k j Nil p q = refl
  occurs_in-bind i k j (tm_cons t ts) p q = λ z. occurs-bind i k j t p q z || occurs_in-bind i k j ts p q z

index_0-bind : (i k : ℕ) (t : Term) → k ≤ i → is_index_0 (bind_index (suc i) (suc k) t) ≡ is_index_0 t
unfolding bind_index
index_0-bind i k (lam b t) p = refl
index_0-bind i k (Spine h ts) p = λ z. is_bound-bind (suc i) (suc k) 0 h (omega (arith, p)) (omega arith) z && is_nil-bind (suc i) (suc k) ts z

ends-bind : (i k : ℕ) (ts : Terms) → k ≤ i → ends_in_0 (bind_index_all (suc i) (suc k) ts) ≡ ends_in_0 ts
unfolding bind_index_all ends_in_0
ends-bind i k Nil p = refl
ends-bind i k (tm_cons t Nil) p = index_0-bind i k t p
ends-bind i k (tm_cons t (tm_cons u us)) p = ends-bind i k (tm_cons u us) p

contracts-bind : (i k : ℕ) (b : Term) → k ≤ i → contracts (bind_index (suc i) (suc k) b) ≡ contracts b
unfolding bind_index contracts
contracts-bind i k (lam c b) p = refl
contracts-bind i k (Spine h ts) p =
    let e = ap (occurs_in 0) (front-bind (suc i) (suc k) ts) ∙ occurs_in-bind (suc i) (suc k) 0 (front ts) (omega (arith, p)) (omega arith) in
    λ z. ends-bind i k ts p z && not (is_bound-bind (suc i) (suc k) 0 h (omega (arith, p)) (omega arith) z || e z)

module _ (a : Typ) where
  grown : (es bs : Types) → types_len es < types_len (join es (ty_cons a bs))
  unfolding types_len
  grown es bs = let e = types_len-join es (ty_cons a bs) in omega (arith, e)

  raised : (es bs : Types) (h : Head) → IsHead (join es bs) h
      → IsHead (join es (ty_cons a bs)) (raise_head 1 (types_len es) h) × (head_type (join es (ty_cons a bs)) (raise_head 1 (types_len es) h) ≡ head_type (join es bs) h)
  unfolding join types_len
  raised es bs h q = (IsHead-raise es (ty_cons a no_types) bs h q, head_type-raise es (ty_cons a no_types) bs h)

  head-bind : (es bs : Types) (i : ℕ) (h : Head) → type_at (join es bs) i ≡ a → IsHead (join es bs) h
      → IsHead (join es (ty_cons a bs)) (bind_index_head i (types_len es) h) × (head_type (join es (ty_cons a bs)) (bind_index_head i (types_len es) h) ≡ head_type (join es bs) h)
  head-bind es bs i h t q = go (bind-cases i (types_len es) h)
    where
      go : ((h ≡ Bound i) × (bind_index_head i (types_len es) h ≡ Bound (types_len es))) ⊎ (bind_index_head i (types_len es) h ≡ raise_head 1 (types_len es) h)
          → IsHead (join es (ty_cons a bs)) (bind_index_head i (types_len es) h) × (head_type (join es (ty_cons a bs)) (bind_index_head i (types_len es) h) ≡ head_type (join es bs) h)
      go (inl p) =
          let w : types_len es < types_len (join es (ty_cons a bs)) = grown es bs in
          subst (λ k. IsHead (join es (ty_cons a bs)) k × (head_type (join es (ty_cons a bs)) k ≡ head_type (join es bs) h)) (sym p.1)
          (w, type_at-here es bs a ∙ sym t ∙ sym (ap (head_type (join es bs)) p.0))
      go (inr p) =
          subst (λ k. IsHead (join es (ty_cons a bs)) k × (head_type (join es (ty_cons a bs)) k ≡ head_type (join es bs) h)) (sym p)
          (raised es bs h q)

  mutual
    unfolding bind_index type_of join types_len type_at

    bind-term : (es bs : Types) (i : ℕ) (t : Term) → types_len es ≤ i → type_at (join es bs) i ≡ a → IsTerm (join es bs) t
        → IsTerm (join es (ty_cons a bs)) (bind_index i (types_len es) t) × (type_of (join es (ty_cons a bs)) (bind_index i (types_len es) t) ≡ type_of (join es bs) t)
    bind-term es bs i (lam c b) q y p =
        let r = bind-term (ty_cons c es) bs (suc i) b (omega (arith, q)) y p.0 in
        ((r.0, contracts-bind i (types_len es) b q ∙ p.1), ap (fun c) r.1)
    bind-term es bs i (Spine h ts) q y p =
        let w = head-bind es bs i h y p.0 in
        let c = head_type (join es bs) h in (
          (w.0, subst (λ z. AreArgs (join es (ty_cons a bs)) z (bind_index_all i (types_len es) ts)) (sym w.1) (bind-args es bs i c ts q y p.1)),
          result-bind i (types_len es) _ ts ∙ ap (λ z. result_type z ts) w.1,
        )

    bind-args : (es bs : Types) (i : ℕ) (c : Typ) (ts : Terms) → types_len es ≤ i → type_at (join es bs) i ≡ a → AreArgs (join es bs) c ts
        → AreArgs (join es (ty_cons a bs)) c (bind_index_all i (types_len es) ts)
    bind-args es bs i c Nil q y p = tt
    bind-args es bs i c (tm_cons t ts) q y p =
        let r = bind-term es bs i t q y p.1.0 in
        (p.0 ∙ ap (λ z. fun z (cod c)) (sym r.1), (r.0, bind-args es bs i (cod c) ts q y p.1.1))

  -- the variable put back
  at_index : (j k : ℕ) (us : Terms) → happ a (raise k 0 (index j)) us ≡ Spine (Bound (j + k)) us
  unfolding raise append
  at_index j k us = ap (λ h. happ a (Spine h Nil) us) (raise-high k 0 j (omega arith)) ∙ happ-spine a (Bound (j + k)) Nil us

  back_head : (j i k : ℕ) (h : Head) (us : Terms) → i ≡ j + k → put_head (happ a) (index j) k (bind_index_head i k h) us ≡ Spine h us
  back_head j i k h us q = go (bind-cases i k h)
    where
      go : ((h ≡ Bound i) × (bind_index_head i k h ≡ Bound k)) ⊎ (bind_index_head i k h ≡ raise_head 1 k h) → put_head (happ a) (index j) k (bind_index_head i k h) us ≡ Spine h us
      go (inl p) = ap (λ z. put_head (happ a) (index j) k z us) p.1 ∙ put-here (happ a) (index j) k us ∙ at_index j k us ∙ ap (λ z. Spine (Bound z) us) (sym q) ∙ ap (λ z. Spine z us) (sym p.0)
      go (inr p) = ap (λ z. put_head (happ a) (index j) k z us) p ∙ put_head-cancel (happ a) (index j) k h us

  mutual
    unfolding bind_index put

    back : (bs : Types) (j i k : ℕ) (t : Term) → i ≡ j + k → IsTerm bs t → put (happ a) (index j) k (bind_index i k t) ≡ t
    back bs j i k (lam c b) q p = ap (eta c) (back (ty_cons c bs) j (suc i) (suc k) b (omega (arith, q)) p.0) ∙ eta-short c b p.1
    back bs j i k (Spine h ts) q p = ap (put_head (happ a) (index j) k (bind_index_head i k h)) (back_all bs (head_type bs h) j i k ts q p.1) ∙ back_head j i k h ts q

    back_all : (bs : Types) (c : Typ) (j i k : ℕ) (ts : Terms) → i ≡ j + k → AreArgs bs c ts → put_all (happ a) (index j) k (bind_index_all i k ts) ≡ ts
    back_all bs c j i k Nil q p = refl
    back_all bs c j i k (tm_cons t ts) q p =
        let e = back bs j i k t q p.1.0 in let g = back_all bs (cod c) j i k ts q p.1.1 in λ z. tm_cons (e z) (g z)

-- an abstraction over bound variables
pub abstracted-has : (is : List ℕ) (bs : Types) (c : Typ) (t : Term) → HasType bs c t → HasType bs (functions (types_at bs is) c) (abstracted is bs t)
unfolding abstracted types_at functions join types_len
abstracted-has [] bs c t p = p
abstracted-has (i ∷ is) bs c t p =
    let w = abstracted-has is bs c t p in
    let r = bind-term (type_at bs i) no_types bs i (abstracted is bs t) (omega arith) refl w.0 in
    let s = IsTerm-eta bs (type_at bs i) (bind_index i 0 (abstracted is bs t)) r.0 in
    (s.0, s.1 ∙ ap (fun (type_at bs i)) (r.1 ∙ w.1))

pub abstracted-back : (is : List ℕ) (bs : Types) (c : Typ) (t : Term) → HasType bs c t → happ (functions (types_at bs is) c) (abstracted is bs t) (indexed is) ≡ t
unfolding abstracted types_at functions indexed join types_len
abstracted-back [] bs c t p = happ-nil c t
abstracted-back (i ∷ is) bs c t p =
    let w = abstracted-has is bs c t p in
    let a = type_at bs i in
    let d = functions (types_at bs is) c in
    let r = bind-term a no_types bs i (abstracted is bs t) (omega arith) refl w.0 in
    happ-eta (fun a d) a bs (bind_index i 0 (abstracted is bs t)) (index i) (indexed is) (ap (fun a) (sym (cod-fun a d))) r.0
    ∙ ap (λ z. happ (cod (fun a d)) z (indexed is)) (back a bs i i 0 (abstracted is bs t) (omega arith) w.0)
    ∙ ap (λ z. happ z (abstracted is bs t) (indexed is)) (cod-fun a d)
    ∙ abstracted-back is bs c t p

-- what holds of a term's variables holds of those of the abstraction
module _ (P : Head → Typ → Type 0) where
  head-vars : (i k : ℕ) (h : Head) → HeadVars P h → HeadVars P (bind_index_head i k h)
  head-vars i k (Const c a) p = tt
  head-vars i k (Free x a) p = p
  head-vars i k (Schematic x a) p = p
  head-vars i k (Bound n) p = go (nat_eq n i)
    where
      go : (v : Bool) → HeadVars P (if v then Bound k else raise_head 1 k (Bound n))
      go true = tt
      go false = tt

  mutual
    unfolding bind_index

    bind-vars : (i k : ℕ) (t : Term) → Vars P t → Vars P (bind_index i k t)
    bind-vars i k (lam a b) p = bind-vars (suc i) (suc k) b p
    bind-vars i k (Spine h ts) p = (head-vars i k h p.0, bind-all_vars i k ts p.1)

    bind-all_vars : (i k : ℕ) (ts : Terms) → AllVars P ts → AllVars P (bind_index_all i k ts)
    bind-all_vars i k Nil p = tt
    bind-all_vars i k (tm_cons t ts) p = (bind-vars i k t p.0, bind-all_vars i k ts p.1)

  pub abstracted-vars : (is : List ℕ) (bs : Types) (t : Term) → Vars P t → Vars P (abstracted is bs t)
  unfolding abstracted
  abstracted-vars [] bs t p = p
  abstracted-vars (i ∷ is) bs t p =
      vars-eta P (type_at bs i) (bind_index i 0 (abstracted is bs t)) (bind-vars i 0 (abstracted is bs t) (abstracted-vars is bs t p))
