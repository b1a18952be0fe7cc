-- Abstraction over a free variable gives a function of that type, which at the variable is the term.
use Rattle.std.proofs.Common.{◌≡◌, ℕ, suc, ◌<◌, Bool, true, false, not, ◌&&◌, ◌||◌, ◌⊎◌, inl, inr, if◌then◌else◌, refl, sym, ◌∙◌, ap, subst, arith}
use Rattle.std.proofs.lemmas.Bool.{and_parts}
use Rattle.iv_text.specs.declared.name.Name.{Name}
use Rattle.iv_term.specs.declared.typ.Typ.{Typ}
use Rattle.iv_term.specs.declared.typ.Types.{Types}
use Rattle.iv_term.specs.declared.typ.Typ.TheBlock.{Nil as no_types}
use Rattle.iv_term.specs.declared.term.Head.{Head}
use Rattle.iv_term.specs.declared.term.Head.TheVariants.{Const, Free, Schematic, Bound}
use Rattle.iv_term.specs.declared.term.Term.{Term}
use Rattle.iv_term.specs.declared.term.Terms.{Terms}
use Rattle.iv_term.specs.declared.term.Term.TheBlock.{Spine, Nil}
use Rattle.iv_term.specs.Typ.{fun, ty_cons, same_typ}
use Rattle.iv_text.specs.Name.{same_name}
use Rattle.iv_term.specs.Term.{lam, tm_cons, is_nil, is_free}
use Rattle.iv_term.proofs.Laws.Same.{same_typ-true}
use Rattle.iv_text.proofs.Same.{same_name-true}
use Rattle.iv_hsub.specs.Typing.{cod, types_len, head_type, result_type, type_of, IsHead, IsTerm, AreArgs, join}
use Rattle.iv_hsub.specs.Index.{raise_head, raise, is_bound, occurs, occurs_in, is_index_0, ends_in_0, front, contracts, eta}
use Rattle.iv_hsub.specs.Hsub.{append, put_head, put, put_all, happ}
use Rattle.iv_hsub.specs.Abstract.{free, bind_head, bind, bind_all, abstract_over}
use Rattle.iv_hsub.proofs.Terms.Base.{eq_false, types_len-join, type_at-here, cod-fun}
use Rattle.iv_hsub.proofs.Terms.Raise.{is_bound-raise, head_type-raise, IsHead-raise}
use Rattle.iv_hsub.proofs.Terms.Eta.{EtaCase, eta_cases, eta-short, IsTerm-eta}
use Rattle.iv_hsub.proofs.Terms.Put.{happ-nil, happ-spine, happ-lam, put-here}
use Rattle.iv_hsub.proofs.Terms.Cancel.{put_head-cancel, put-expand}

pub is_free-true : (x y : Name) (a b : Typ) → is_free x a (Free y b) ≡ true → Free x a ≡ Free y b
is_free-true x y a b q =
    let p = and_parts (same_name x y) (same_typ a b) q in
    let e = same_name-true x y p.0 in
    let f = same_typ-true a b p.1 in
    λ i. Free (e i) (f i)

module _ (x : Name) (a : Typ) where
  -- the variable becomes the index, any other head is raised
  pub bind-cases : (k : ℕ) (h : Head) → ((h ≡ Free x a) × (bind_head x a k h ≡ Bound k)) ⊎ (bind_head x a k h ≡ raise_head 1 k h)
  bind-cases k (Free y b) = go (is_free x a (Free y b)) refl
    where
      go : (v : Bool) → is_free x a (Free y b) ≡ v → ((Free y b ≡ Free x a) × (bind_head x a k (Free y b) ≡ Bound k)) ⊎ (bind_head x a k (Free y b) ≡ Free y b)
      go true e = inl (sym (is_free-true x y a b e), ap (λ c. if c then Bound k else Free y b) e)
      go false e = inr (ap (λ c. if c then Bound k else Free y b) e)
  bind-cases k (Const c b) = inr refl
  bind-cases k (Schematic y b) = inr refl
  bind-cases k (Bound n) = inr refl

  is_nil-bind : (k : ℕ) (ts : Terms) → is_nil (bind_all x a k ts) ≡ is_nil ts
  unfolding bind_all
  is_nil-bind k Nil = refl
  is_nil-bind k (tm_cons t ts) = refl

  result-bind : (k : ℕ) (c : Typ) (ts : Terms) → result_type c (bind_all x a k ts) ≡ result_type c ts
  unfolding bind_all result_type
  result-bind k c Nil = refl
  result-bind k c (tm_cons t ts) = result-bind k (cod c) ts

  front-bind : (k : ℕ) (ts : Terms) → front (bind_all x a k ts) ≡ bind_all x a k (front ts)
  unfolding bind_all front
  front-bind k Nil = refl
  front-bind k (tm_cons t Nil) = refl
  front-bind k (tm_cons t (tm_cons u us)) = ap (λ w. tm_cons (bind x a k t) w) (front-bind k (tm_cons u us))

  is_bound-bind : (k j : ℕ) (h : Head) → j < k → is_bound j (bind_head x a k h) ≡ is_bound j h
  is_bound-bind k j h q = go (bind-cases k h)
    where
      go : ((h ≡ Free x a) × (bind_head x a k h ≡ Bound k)) ⊎ (bind_head x a k h ≡ raise_head 1 k h) → is_bound j (bind_head x a k h) ≡ is_bound j h
      go (inl p) = ap (is_bound j) p.1 ∙ eq_false k j (λ e. omega (arith, q, e)) ∙ sym (ap (is_bound j) p.0)
      go (inr p) = ap (is_bound j) p ∙ is_bound-raise 1 k j h q

  mutual
    unfolding occurs bind

    occurs-bind : (k j : ℕ) (t : Term) → j < k → occurs j (bind x a k t) ≡ occurs j t
    occurs-bind k j (lam b t) q = occurs-bind (suc k) (suc j) t (omega (arith, q))
    occurs-bind k j (Spine h ts) q = λ i. is_bound-bind k j h q i || occurs_in-bind k j ts q i

    occurs_in-bind : (k j : ℕ) (ts : Terms) → j < k → occurs_in j (bind_all x a k ts) ≡ occurs_in j ts
    occurs_in-bind k j Nil q = refl
    occurs_in-bind k j (tm_cons t ts) q = λ i. occurs-bind k j t q i || occurs_in-bind k j ts q i

  index_0-bind : (k : ℕ) (t : Term) → is_index_0 (bind x a (suc k) t) ≡ is_index_0 t
  unfolding bind
  index_0-bind k (lam b t) = refl
  index_0-bind k (Spine h ts) = λ i. is_bound-bind (suc k) 0 h (omega arith) i && is_nil-bind (suc k) ts i

  ends-bind : (k : ℕ) (ts : Terms) → ends_in_0 (bind_all x a (suc k) ts) ≡ ends_in_0 ts
  unfolding bind_all ends_in_0
  ends-bind k Nil = refl
  ends-bind k (tm_cons t Nil) = index_0-bind k t
  ends-bind k (tm_cons t (tm_cons u us)) = ends-bind k (tm_cons u us)

  pub contracts-bind : (k : ℕ) (b : Term) → contracts (bind x a (suc k) b) ≡ contracts b
  unfolding bind contracts
  contracts-bind k (lam c b) = refl
  contracts-bind k (Spine h ts) =
      let e = ap (occurs_in 0) (front-bind (suc k) ts) ∙ occurs_in-bind (suc k) 0 (front ts) (omega arith) in
      λ i. ends-bind k ts i && not (is_bound-bind (suc k) 0 h (omega arith) i || e i)

  grown : (es bs : Types) → types_len es < types_len (join es (ty_cons a bs))
  unfolding types_len
  grown es bs = let e = types_len-join es (ty_cons a bs) in omega (arith, e)

  raised : (es bs : Types) (h : Head) → IsHead (join es bs) h
      → IsHead (join es (ty_cons a bs)) (raise_head 1 (types_len es) h) × (head_type (join es (ty_cons a bs)) (raise_head 1 (types_len es) h) ≡ head_type (join es bs) h)
  unfolding join types_len
  raised es bs h q = (IsHead-raise es (ty_cons a no_types) bs h q, head_type-raise es (ty_cons a no_types) bs h)

  at_free : (k : ℕ) (us : Terms) → happ a (raise k 0 (free x a)) us ≡ Spine (Free x a) us
  unfolding raise append
  at_free k us = happ-spine a (Free x a) Nil us

  head-bind : (es bs : Types) (h : Head) → IsHead (join es bs) h
      → IsHead (join es (ty_cons a bs)) (bind_head x a (types_len es) h) × (head_type (join es (ty_cons a bs)) (bind_head x a (types_len es) h) ≡ head_type (join es bs) h)
  head-bind es bs h q = go (bind-cases (types_len es) h)
    where
      go : ((h ≡ Free x a) × (bind_head x a (types_len es) h ≡ Bound (types_len es))) ⊎ (bind_head x a (types_len es) h ≡ raise_head 1 (types_len es) h)
          → IsHead (join es (ty_cons a bs)) (bind_head x a (types_len es) h) × (head_type (join es (ty_cons a bs)) (bind_head x a (types_len es) h) ≡ head_type (join es bs) h)
      go (inl p) =
          let w : types_len es < types_len (join es (ty_cons a bs)) = grown es bs in
          subst (λ k. IsHead (join es (ty_cons a bs)) k × (head_type (join es (ty_cons a bs)) k ≡ head_type (join es bs) h)) (sym p.1)
          (w, type_at-here es bs a ∙ sym (ap (head_type (join es bs)) p.0))
      go (inr p) =
          subst (λ k. IsHead (join es (ty_cons a bs)) k × (head_type (join es (ty_cons a bs)) k ≡ head_type (join es bs) h)) (sym p)
          (raised es bs h q)

  mutual
    unfolding bind type_of join types_len

    pub bind-term : (es bs : Types) (t : Term) → IsTerm (join es bs) t
        → IsTerm (join es (ty_cons a bs)) (bind x a (types_len es) t) × (type_of (join es (ty_cons a bs)) (bind x a (types_len es) t) ≡ type_of (join es bs) t)
    bind-term es bs (lam c b) p =
        let r = bind-term (ty_cons c es) bs b p.0 in
        ((r.0, contracts-bind (types_len es) b ∙ p.1), ap (fun c) r.1)
    bind-term es bs (Spine h ts) p =
        let w = head-bind es bs h p.0 in
        let c = head_type (join es bs) h in (
          (w.0, subst (λ z. AreArgs (join es (ty_cons a bs)) z (bind_all x a (types_len es) ts)) (sym w.1) (bind-args es bs c ts p.1)),
          result-bind (types_len es) _ ts ∙ ap (λ z. result_type z ts) w.1,
        )

    pub bind-args : (es bs : Types) (c : Typ) (ts : Terms) → AreArgs (join es bs) c ts → AreArgs (join es (ty_cons a bs)) c (bind_all x a (types_len es) ts)
    bind-args es bs c Nil p = tt
    bind-args es bs c (tm_cons t ts) p =
        let r = bind-term es bs t p.1.0 in
        (p.0 ∙ ap (λ z. fun z (cod c)) (sym r.1), (r.0, bind-args es bs (cod c) ts p.1.1))

  -- an abstraction is a term, of a type of functions
  pub abstract_over-term : (bs : Types) (t : Term) → IsTerm bs t
      → IsTerm bs (abstract_over x a t) × (type_of bs (abstract_over x a t) ≡ fun a (type_of bs t))
  unfolding abstract_over join types_len
  abstract_over-term bs t p =
      let r = bind-term no_types bs t p in
      let s = IsTerm-eta bs a (bind x a 0 t) r.0 in
      (s.0, s.1 ∙ ap (fun a) r.1)

  -- the variable put back
  back_head : (k : ℕ) (h : Head) (us : Terms) → put_head (happ a) (free x a) k (bind_head x a k h) us ≡ Spine h us
  back_head k h us = go (bind-cases k h)
    where
      go : ((h ≡ Free x a) × (bind_head x a k h ≡ Bound k)) ⊎ (bind_head x a k h ≡ raise_head 1 k h) → put_head (happ a) (free x a) k (bind_head x a k h) us ≡ Spine h us
      go (inl p) = ap (λ z. put_head (happ a) (free x a) k z us) p.1 ∙ put-here (happ a) (free x a) k us ∙ at_free k us ∙ ap (λ z. Spine z us) (sym p.0)
      go (inr p) = ap (λ z. put_head (happ a) (free x a) k z us) p ∙ put_head-cancel (happ a) (free x a) k h us

  mutual
    unfolding bind put

    pub back : (bs : Types) (k : ℕ) (t : Term) → IsTerm bs t → put (happ a) (free x a) k (bind x a k t) ≡ t
    back bs k (lam c b) p = ap (eta c) (back (ty_cons c bs) (suc k) b p.0) ∙ eta-short c b p.1
    back bs k (Spine h ts) p = ap (put_head (happ a) (free x a) k (bind_head x a k h)) (back_all bs (head_type bs h) k ts p.1) ∙ back_head k h ts

    pub back_all : (bs : Types) (c : Typ) (k : ℕ) (ts : Terms) → AreArgs bs c ts → put_all (happ a) (free x a) k (bind_all x a k ts) ≡ ts
    back_all bs c k Nil p = refl
    back_all bs c k (tm_cons t ts) p =
        let e = back bs k t p.1.0 in let g = back_all bs (cod c) k ts p.1.1 in λ i. tm_cons (e i) (g i)

  -- the abstraction at the variable is the term
  pub abstract_over-back : (bs : Types) (c : Typ) (t : Term) → IsTerm bs t → happ (fun a c) (abstract_over x a t) (tm_cons (free x a) Nil) ≡ t
  unfolding abstract_over join types_len
  abstract_over-back bs c t p = go (eta_cases a (bind x a 0 t))
    where
      go : ((contracts (bind x a 0 t) ≡ false) × (eta a (bind x a 0 t) ≡ lam a (bind x a 0 t))) ⊎ EtaCase a (bind x a 0 t)
          → happ (fun a c) (eta a (bind x a 0 t)) (tm_cons (free x a) Nil) ≡ t
      go (inl q) =
          ap (λ z. happ (fun a c) z (tm_cons (free x a) Nil)) q.1 ∙ happ-lam (fun a c) a (bind x a 0 t) (free x a) Nil (ap (fun a) (sym (cod-fun a c)))
          ∙ happ-nil _ _ ∙ back bs 0 t p
      go (inr q) =
          let r = bind-term no_types bs t p in
          let s = subst (IsTerm bs) q.eta_is (IsTerm-eta bs a (bind x a 0 t) r.0).0 in
          ap (λ z. happ (fun a c) z (tm_cons (free x a) Nil)) q.eta_is ∙ happ-spine (fun a c) q.head q.args (tm_cons (free x a) Nil)
          ∙ sym (put-expand a bs (free x a) q.head q.args s) ∙ ap (put (happ a) (free x a) 0) (sym q.body_is) ∙ back bs 0 t p
