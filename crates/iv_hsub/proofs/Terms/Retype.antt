-- Types put in a term: it stays a term, and they go past raising and contraction.
use Rattle.std.proofs.Common.{◌≡◌, ℕ, zero, suc, false, not, ◌&&◌, ◌||◌, ◌⊎◌, inl, inr, refl, sym, ◌∙◌, ap, subst, arith}
use Rattle.iv_term.specs.declared.typ.Typ.{Typ}
use Rattle.iv_term.specs.declared.typ.Types.{Types}
use Rattle.iv_term.specs.declared.typ.Typ.TheBlock.{Nil as no_types}
use Rattle.iv_term.specs.declared.term.Head.{Head}
use Rattle.iv_term.specs.declared.term.Head.TheVariants.{Const, Free, Schematic, Bound}
use Rattle.iv_term.specs.declared.term.Term.{Term}
use Rattle.iv_term.specs.declared.term.Terms.{Terms}
use Rattle.iv_term.specs.declared.term.Term.TheBlock.{Spine, Nil}
use Rattle.iv_term.specs.Typ.{fun, ty_cons}
use Rattle.iv_term.specs.Term.{lam, tm_cons, is_nil}
use Rattle.iv_hsub.specs.Typing.{cod, types_len, type_at, join, head_type, result_type, type_of, IsHead, IsTerm, AreArgs, HasType}
use Rattle.iv_hsub.specs.Index.{index, raise_head, raise, raise_all, is_bound, occurs, occurs_in, is_index_0, ends_in_0, front, contracts, eta}
use Rattle.iv_hsub.specs.Hsub.{append}
use Rattle.iv_hsub.specs.Hhf.{expand}
use Rattle.iv_hsub.proofs.Terms.Eta.{eta_cases, EtaCase, eta-short, eta-expand}
use Rattle.iv_hsub.specs.Retype.{map_typ, map_typs, retype_head, retype, retype_all}

module _ (f : Typ → Typ) where
  -- lists of types, and what they lead to
  pub types_len-map : (bs : Types) → types_len (map_typs f bs) ≡ types_len bs
  unfolding types_len map_typs
  types_len-map no_types = refl
  types_len-map (ty_cons a bs) = ap suc (types_len-map bs)

  pub join-map : (es bs : Types) → map_typs f (join es bs) ≡ join (map_typs f es) (map_typs f bs)
  unfolding join map_typs
  join-map no_types bs = refl
  join-map (ty_cons a es) bs = ap (ty_cons (map_typ f a)) (join-map es bs)

  type_at-map : (bs : Types) (n : ℕ) → type_at (map_typs f bs) n ≡ map_typ f (type_at bs n)
  unfolding type_at map_typ map_typs
  type_at-map no_types n = refl
  type_at-map (ty_cons a bs) zero = refl
  type_at-map (ty_cons a bs) (suc n) = type_at-map bs n

  pub head_type-retype : (bs : Types) (h : Head) → head_type (map_typs f bs) (retype_head f h) ≡ map_typ f (head_type bs h)
  head_type-retype bs (Const c a) = refl
  head_type-retype bs (Free x a) = refl
  head_type-retype bs (Schematic x a) = refl
  head_type-retype bs (Bound n) = type_at-map bs n

  IsHead-retype : (bs : Types) (h : Head) → IsHead bs h → IsHead (map_typs f bs) (retype_head f h)
  IsHead-retype bs (Const c a) p = tt
  IsHead-retype bs (Free x a) p = tt
  IsHead-retype bs (Schematic x a) p = tt
  IsHead-retype bs (Bound n) p = let e = types_len-map bs in omega (arith, p, e)

  pub fun-map : (a b : Typ) → map_typ f (fun a b) ≡ fun (map_typ f a) (map_typ f b)
  unfolding map_typ map_typs
  fun-map a b = refl

  pub cod-map : (x a : Typ) → a ≡ fun x (cod a) → cod (map_typ f a) ≡ map_typ f (cod a)
  unfolding cod map_typ map_typs
  cod-map x a e = ap (λ z. cod (map_typ f z)) e

  -- no contraction comes or goes
  is_nil-retype : (ts : Terms) → is_nil (retype_all f ts) ≡ is_nil ts
  unfolding retype_all
  is_nil-retype Nil = refl
  is_nil-retype (tm_cons t ts) = refl

  front-retype : (ts : Terms) → front (retype_all f ts) ≡ retype_all f (front ts)
  unfolding retype_all front
  front-retype Nil = refl
  front-retype (tm_cons t Nil) = refl
  front-retype (tm_cons t (tm_cons u us)) = ap (λ w. tm_cons (retype f t) w) (front-retype (tm_cons u us))

  is_bound-retype : (k : ℕ) (h : Head) → is_bound k (retype_head f h) ≡ is_bound k h
  is_bound-retype k (Const c a) = refl
  is_bound-retype k (Free x a) = refl
  is_bound-retype k (Schematic x a) = refl
  is_bound-retype k (Bound n) = refl

  mutual
    unfolding occurs retype

    occurs-retype : (k : ℕ) (t : Term) → occurs k (retype f t) ≡ occurs k t
    occurs-retype k (lam a b) = occurs-retype (suc k) b
    occurs-retype k (Spine h ts) = λ i. is_bound-retype k h i || occurs_in-retype k ts i

    occurs_in-retype : (k : ℕ) (ts : Terms) → occurs_in k (retype_all f ts) ≡ occurs_in k ts
    occurs_in-retype k Nil = refl
    occurs_in-retype k (tm_cons t ts) = λ i. occurs-retype k t i || occurs_in-retype k ts i

  index_0-retype : (t : Term) → is_index_0 (retype f t) ≡ is_index_0 t
  unfolding retype
  index_0-retype (lam a b) = refl
  index_0-retype (Spine h ts) = λ i. is_bound-retype 0 h i && is_nil-retype ts i

  ends-retype : (ts : Terms) → ends_in_0 (retype_all f ts) ≡ ends_in_0 ts
  unfolding retype_all ends_in_0
  ends-retype Nil = refl
  ends-retype (tm_cons t Nil) = index_0-retype t
  ends-retype (tm_cons t (tm_cons u us)) = ends-retype (tm_cons u us)

  pub contracts-retype : (b : Term) → contracts (retype f b) ≡ contracts b
  unfolding retype contracts
  contracts-retype (lam a b) = refl
  contracts-retype (Spine h ts) =
      let e = ap (occurs_in 0) (front-retype ts) ∙ occurs_in-retype 0 (front ts) in
      λ i. ends-retype ts i && not (is_bound-retype 0 h i || e i)

  -- raising
  pub raise_head-retype : (d c : ℕ) (h : Head) → retype_head f (raise_head d c h) ≡ raise_head d c (retype_head f h)
  raise_head-retype d c (Const x a) = refl
  raise_head-retype d c (Free x a) = refl
  raise_head-retype d c (Schematic x a) = refl
  raise_head-retype d c (Bound n) = refl

  mutual
    unfolding raise retype

    pub raise-retype : (d c : ℕ) (t : Term) → retype f (raise d c t) ≡ raise d c (retype f t)
    raise-retype d c (lam a b) = ap (λ w. lam (map_typ f a) w) (raise-retype d (suc c) b)
    raise-retype d c (Spine h ts) = let x = raise_head-retype d c h in let y = raise_all-retype d c ts in λ i. Spine (x i) (y i)

    pub raise_all-retype : (d c : ℕ) (ts : Terms) → retype_all f (raise_all d c ts) ≡ raise_all d c (retype_all f ts)
    raise_all-retype d c Nil = refl
    raise_all-retype d c (tm_cons t ts) = let x = raise-retype d c t in let y = raise_all-retype d c ts in λ i. tm_cons (x i) (y i)

  pub retype_all-append : (ts us : Terms) → retype_all f (append ts us) ≡ append (retype_all f ts) (retype_all f us)
  unfolding retype_all append
  retype_all-append Nil us = refl
  retype_all-append (tm_cons t ts) us = ap (λ w. tm_cons (retype f t) w) (retype_all-append ts us)

  -- contraction
  pub retype-expand : (h : Head) (ts : Terms) → retype f (expand h ts) ≡ expand (retype_head f h) (retype_all f ts)
  unfolding expand retype
  retype-expand h ts =
      let x = raise_head-retype 1 0 h in
      let y = retype_all-append (raise_all 1 0 ts) (tm_cons (index 0) Nil) ∙ ap (λ z. append z (tm_cons (index 0) Nil)) (raise_all-retype 1 0 ts) in
      λ i. Spine (x i) (y i)

  pub retype-eta : (a : Typ) (b : Term) → retype f (eta a b) ≡ eta (map_typ f a) (retype f b)
  unfolding retype
  retype-eta a b = go (eta_cases a b)
    where
      go : ((contracts b ≡ false) × (eta a b ≡ lam a b)) ⊎ EtaCase a b → retype f (eta a b) ≡ eta (map_typ f a) (retype f b)
      go (inl q) = ap (retype f) q.1 ∙ sym (eta-short (map_typ f a) (retype f b) (contracts-retype b ∙ q.0))
      go (inr x) =
          ap (retype f) x.eta_is
          ∙ sym (ap (λ z. eta (map_typ f a) (retype f z)) x.body_is ∙ ap (eta (map_typ f a)) (retype-expand x.head x.args)
          ∙ eta-expand (map_typ f a) (retype_head f x.head) (retype_all f x.args))

  -- typing
  pub result-retype : (bs : Types) (a : Typ) (ts : Terms) → AreArgs bs a ts → result_type (map_typ f a) (retype_all f ts) ≡ map_typ f (result_type a ts)
  unfolding retype_all result_type
  result-retype bs a Nil p = refl
  result-retype bs a (tm_cons t ts) p =
      ap (λ z. result_type z (retype_all f ts)) (cod-map (type_of bs t) a p.0) ∙ result-retype bs (cod a) ts p.1.1

  mutual
    unfolding retype type_of map_typ map_typs

    pub retype-term : (bs : Types) (t : Term) → IsTerm bs t
        → IsTerm (map_typs f bs) (retype f t) × (type_of (map_typs f bs) (retype f t) ≡ map_typ f (type_of bs t))
    retype-term bs (lam a b) p =
        let r = retype-term (ty_cons a bs) b p.0 in
        ((r.0, contracts-retype b ∙ p.1), ap (fun (map_typ f a)) r.1)
    retype-term bs (Spine h ts) p =
        let e = head_type-retype bs h in (
          (IsHead-retype bs h p.0, subst (λ c. AreArgs (map_typs f bs) c (retype_all f ts)) (sym e) (retype-args bs (head_type bs h) ts p.1)),
          ap (λ c. result_type c (retype_all f ts)) e ∙ result-retype bs (head_type bs h) ts p.1,
        )

    pub retype-args : (bs : Types) (a : Typ) (ts : Terms) → AreArgs bs a ts → AreArgs (map_typs f bs) (map_typ f a) (retype_all f ts)
    retype-args bs a Nil p = tt
    retype-args bs a (tm_cons t ts) p =
        let r = retype-term bs t p.1.0 in
        let c = cod-map (type_of bs t) a p.0 in (
          ap (map_typ f) p.0 ∙ (λ i. fun (sym r.1 i) (sym c i)),
          (r.0, subst (λ z. AreArgs (map_typs f bs) z (retype_all f ts)) (sym c) (retype-args bs (cod a) ts p.1.1)),
        )

  pub retype-has : (bs : Types) (a : Typ) (t : Term) → HasType bs a t → HasType (map_typs f bs) (map_typ f a) (retype f t)
  retype-has bs a t p = let r = retype-term bs t p.0 in (r.0, r.1 ∙ ap (map_typ f) p.1)
