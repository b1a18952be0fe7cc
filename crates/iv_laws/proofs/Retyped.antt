-- Types put in a term pass hereditary Harrop form.
use Rattle.std.proofs.Common.{◌≡◌, ℕ, suc, Bool, true, false, ◌&&◌, ◌⊎◌, inl, inr, if◌then◌else◌, refl, sym, ◌∙◌, ap, subst}
use Rattle.std.proofs.lemmas.Bool.{and_parts}
use Rattle.iv_term.specs.declared.typ.Typ.{Typ}
use Rattle.iv_term.specs.declared.term.Head.{Head}
use Rattle.iv_term.specs.declared.term.Head.TheVariants.{Const, Free, Schematic, Bound}
use Rattle.iv_term.specs.declared.term.Term.{Term}
use Rattle.iv_term.specs.declared.term.Terms.{Terms}
use Rattle.iv_term.specs.declared.term.Term.TheBlock.{Spine, Nil}
use Rattle.iv_term.specs.Term.{lam, tm_cons, imp, imp_head, is_nil, are_two, antecedent, consequent}
use Rattle.iv_hsub.specs.Typing.{dom}
use Rattle.iv_hsub.specs.Index.{index, raise_head, raise, raise_all, contracts, eta}
use Rattle.iv_hsub.specs.Hsub.{append}
use Rattle.iv_hsub.specs.Hhf.{is_imp, is_all, bound_type, one, expand, all_of, push_expanded, push, push_args, push_under, hhf_spine, hhf, hhf_all}
use Rattle.iv_hsub.specs.Retype.{map_typ, map_typs, retype_head, retype, retype_all}
use Rattle.iv_hsub.proofs.Theory.{last, EtaCase, eta_cases, raise-retype, retype-expand, retype-eta, all-true}
use Rattle.iv_laws.specs.Forms.{Heads, AllHeads, KeepsTests, RetypePassesHhf}
use Rattle.iv_laws.proofs.Forming.{choice}

module _ (f : Typ → Typ) where
  -- the heads that the form makes keep the tests
  raised-keeps : (d c : ℕ) (h : Head) → KeepsTests f h → KeepsTests f (raise_head d c h)
  raised-keeps d c (Const x a) p = p
  raised-keeps d c (Free x a) p = p
  raised-keeps d c (Schematic x a) p = p
  raised-keeps d c (Bound n) p = (refl, refl)

  keeps-raised : (d c : ℕ) (h : Head) → KeepsTests f (raise_head d c h) → KeepsTests f h
  keeps-raised d c (Const x a) p = p
  keeps-raised d c (Free x a) p = p
  keeps-raised d c (Schematic x a) p = p
  keeps-raised d c (Bound n) p = (refl, refl)

  imp-keeps : KeepsTests f imp_head
  unfolding map_typ map_typs
  imp-keeps = (refl, refl)

  mutual
    unfolding raise

    heads-raise : (d c : ℕ) (t : Term) → Heads (KeepsTests f) t → Heads (KeepsTests f) (raise d c t)
    heads-raise d c (lam a b) p = heads-raise d (suc c) b p
    heads-raise d c (Spine h ts) p = (raised-keeps d c h p.0, all-raise d c ts p.1)

    all-raise : (d c : ℕ) (ts : Terms) → AllHeads (KeepsTests f) ts → AllHeads (KeepsTests f) (raise_all d c ts)
    all-raise d c Nil p = tt
    all-raise d c (tm_cons t ts) p = (heads-raise d c t p.0, all-raise d c ts p.1)

  mutual
    unfolding raise

    heads-raised : (d c : ℕ) (t : Term) → Heads (KeepsTests f) (raise d c t) → Heads (KeepsTests f) t
    heads-raised d c (lam a b) p = heads-raised d (suc c) b p
    heads-raised d c (Spine h ts) p = (keeps-raised d c h p.0, all-raised d c ts p.1)

    all-raised : (d c : ℕ) (ts : Terms) → AllHeads (KeepsTests f) (raise_all d c ts) → AllHeads (KeepsTests f) ts
    all-raised d c Nil p = tt
    all-raised d c (tm_cons t ts) p = (heads-raised d c t p.0, all-raised d c ts p.1)

  all-last : (ts : Terms) → AllHeads (KeepsTests f) ts → AllHeads (KeepsTests f) (last ts (index 0))
  unfolding append
  all-last Nil p = (((refl, refl), tt), tt)
  all-last (tm_cons t ts) p = (p.0, all-last ts p.1)

  all-before : (ts : Terms) → AllHeads (KeepsTests f) (last ts (index 0)) → AllHeads (KeepsTests f) ts
  unfolding append
  all-before Nil p = tt
  all-before (tm_cons t ts) p = (p.0, all-before ts p.1)

  heads-expand : (h : Head) (ts : Terms) → Heads (KeepsTests f) (Spine h ts) → Heads (KeepsTests f) (expand h ts)
  unfolding expand
  heads-expand h ts p = (raised-keeps 1 0 h p.0, all-last (raise_all 1 0 ts) (all-raise 1 0 ts p.1))

  heads-expanded : (h : Head) (ts : Terms) → Heads (KeepsTests f) (expand h ts) → Heads (KeepsTests f) (Spine h ts)
  unfolding expand
  heads-expanded h ts p = (keeps-raised 1 0 h p.0, all-raised 1 0 ts (all-before (raise_all 1 0 ts) p.1))

  heads-eta : (a : Typ) (b : Term) → Heads (KeepsTests f) b → Heads (KeepsTests f) (eta a b)
  heads-eta a b p = go (eta_cases a b)
    where
      go : ((contracts b ≡ false) × (eta a b ≡ lam a b)) ⊎ EtaCase a b → Heads (KeepsTests f) (eta a b)
      go (inl q) = subst (Heads (KeepsTests f)) (sym q.1) p
      go (inr q) = subst (Heads (KeepsTests f)) (sym q.eta_is) (heads-expanded q.head q.args (subst (Heads (KeepsTests f)) q.body_is p))

  heads-imp : (a b : Term) → Heads (KeepsTests f) a → Heads (KeepsTests f) b → Heads (KeepsTests f) (imp a b)
  heads-imp a b p q = (imp-keeps, (p, (q, tt)))

  heads-all : (h : Head) (b : Term) → KeepsTests f h → Heads (KeepsTests f) b → Heads (KeepsTests f) (all_of h b)
  heads-all h b p q = (p, (heads-eta (bound_type h) b q, tt))

  chosen : (v : Bool) (t u : Term) → Heads (KeepsTests f) t → Heads (KeepsTests f) u → Heads (KeepsTests f) (if v then t else u)
  chosen true t u p q = p
  chosen false t u p q = q

  mutual
    unfolding push

    heads-push : (a b : Term) → Heads (KeepsTests f) a → Heads (KeepsTests f) b → Heads (KeepsTests f) (push a b)
    heads-push a (lam c t) p q = heads-imp a (lam c t) p q
    heads-push a (Spine h ts) p q = heads-push_args a h ts p q

    heads-push_args : (a : Term) (h : Head) (ts : Terms) → Heads (KeepsTests f) a → Heads (KeepsTests f) (Spine h ts) → Heads (KeepsTests f) (push_args a h ts)
    heads-push_args a h Nil p q = heads-imp a (Spine h Nil) p q
    heads-push_args a h (tm_cons t ts) p q =
        chosen (is_all h && is_nil ts) _ _ (heads-all h (push_under (raise 1 0 a) t) q.0 (heads-push_under (raise 1 0 a) t (heads-raise 1 0 a p) q.1.0))
        (heads-imp a (Spine h (tm_cons t ts)) p q)

    heads-push_under : (a t : Term) → Heads (KeepsTests f) a → Heads (KeepsTests f) t → Heads (KeepsTests f) (push_under a t)
    heads-push_under a (lam c t) p q = heads-push a t p q
    heads-push_under a (Spine h ts) p q =
        chosen (is_all h && is_nil ts) _ _
        (heads-all h (imp (raise 1 0 a) (Spine (Bound 1) (one (index 0)))) q.0
        (heads-imp (raise 1 0 a) (Spine (Bound 1) (one (index 0))) (heads-raise 1 0 a p) ((refl, refl), (((refl, refl), tt), tt))))
        (heads-imp a (expand h ts) p (heads-expand h ts q))

  heads-two : (h : Head) (ts : Terms) → Heads (KeepsTests f) (Spine h ts) → Heads (KeepsTests f) (push (antecedent (Spine h ts)) (consequent (Spine h ts)))
  heads-two h Nil p = heads-push (Spine h Nil) (Spine h Nil) p p
  heads-two h (tm_cons t Nil) p = heads-push t (Spine h (tm_cons t Nil)) p.1.0 p
  heads-two h (tm_cons t (tm_cons u us)) p = heads-push t u p.1.0 p.1.1.0

  mutual
    unfolding hhf

    heads-hhf : (t : Term) → Heads (KeepsTests f) t → Heads (KeepsTests f) (hhf t)
    heads-hhf (lam c t) p = heads-eta c (hhf t) (heads-hhf t p)
    heads-hhf (Spine h ts) p =
        let q : Heads (KeepsTests f) (Spine h (hhf_all ts)) = (p.0, all-hhf ts p.1) in
        chosen (is_imp h && are_two (hhf_all ts)) _ _ (heads-two h (hhf_all ts) q) q

    all-hhf : (ts : Terms) → AllHeads (KeepsTests f) ts → AllHeads (KeepsTests f) (hhf_all ts)
    all-hhf Nil p = tt
    all-hhf (tm_cons t ts) p = (heads-hhf t p.0, all-hhf ts p.1)

  -- types pass the form
  bound-all : (h : Head) → is_all h ≡ true → bound_type (retype_head f h) ≡ map_typ f (bound_type h)
  unfolding map_typ map_typs dom
  bound-all h e =
      let k = all-true h e in
      ap (λ z. bound_type (retype_head f z)) k ∙ sym (ap (λ z. map_typ f (bound_type z)) k)

  all_of-retype : (h : Head) (b b' : Term) → is_all h ≡ true → b' ≡ retype f b → all_of (retype_head f h) b' ≡ retype f (all_of h b)
  unfolding retype
  all_of-retype h b b' e q =
      let w = (λ i. eta (bound-all h e i) (q i)) ∙ sym (retype-eta f (bound_type h) b) in ap (λ z. Spine (retype_head f h) (one z)) w

  imp-retype : (a b : Term) → imp (retype f a) (retype f b) ≡ retype f (imp a b)
  unfolding retype map_typ map_typs
  imp-retype a b = refl

  is_nil-retyped : (ts : Terms) → is_nil (retype_all f ts) ≡ is_nil ts
  unfolding retype
  is_nil-retyped Nil = refl
  is_nil-retyped (tm_cons t ts) = refl

  are_two-retyped : (ts : Terms) → are_two (retype_all f ts) ≡ are_two ts
  unfolding retype
  are_two-retyped Nil = refl
  are_two-retyped (tm_cons t Nil) = refl
  are_two-retyped (tm_cons t (tm_cons u Nil)) = refl
  are_two-retyped (tm_cons t (tm_cons u (tm_cons w ws))) = refl

  variable-retyped : Spine (Bound 1) (one (index 0)) ≡ retype f (Spine (Bound 1) (one (index 0)))
  unfolding retype
  variable-retyped = refl

  push_expanded-retype : (a : Term) (h : Head) (ts : Terms) → KeepsTests f h → push_expanded (retype f a) (retype_head f h) (retype_all f ts) ≡ retype f (push_expanded a h ts)
  push_expanded-retype a h ts p =
      choice (retype f) (is_all (retype_head f h) && is_nil (retype_all f ts)) (is_all h && is_nil ts) _ _ _ _
      (λ i. p.1 i && is_nil-retyped ts i)
      (λ e. all_of-retype h (imp (raise 1 0 a) (Spine (Bound 1) (one (index 0)))) (imp (raise 1 0 (retype f a)) (Spine (Bound 1) (one (index 0)))) (and_parts (is_all h) (is_nil ts) e).0
      ((λ i. imp (sym (raise-retype f 1 0 a) i) (variable-retyped i)) ∙ imp-retype (raise 1 0 a) (Spine (Bound 1) (one (index 0)))))
      (ap (imp (retype f a)) (sym (retype-expand f h ts)) ∙ imp-retype a (expand h ts))

  mutual
    unfolding push retype

    push-retype : (a b : Term) → Heads (KeepsTests f) b → push (retype f a) (retype f b) ≡ retype f (push a b)
    push-retype a (lam e t) p = imp-retype a (lam e t)
    push-retype a (Spine h ts) p = push_args-retype a h ts p

    push_args-retype : (a : Term) (h : Head) (ts : Terms) → Heads (KeepsTests f) (Spine h ts) → push_args (retype f a) (retype_head f h) (retype_all f ts) ≡ retype f (push_args a h ts)
    push_args-retype a h Nil p = imp-retype a (Spine h Nil)
    push_args-retype a h (tm_cons t ts) p =
        choice (retype f) (is_all (retype_head f h) && is_nil (retype_all f ts)) (is_all h && is_nil ts) _ _ _ _
        (λ i. p.0.1 i && is_nil-retyped ts i)
        (λ e. all_of-retype h (push_under (raise 1 0 a) t) (push_under (raise 1 0 (retype f a)) (retype f t)) (and_parts (is_all h) (is_nil ts) e).0
        (ap (λ z. push_under z (retype f t)) (sym (raise-retype f 1 0 a)) ∙ push_under-retype (raise 1 0 a) t p.1.0)) (imp-retype a (Spine h (tm_cons t ts)))

    push_under-retype : (a t : Term) → Heads (KeepsTests f) t → push_under (retype f a) (retype f t) ≡ retype f (push_under a t)
    push_under-retype a (lam e t) p = push-retype a t p
    push_under-retype a (Spine h ts) p = push_expanded-retype a h ts p.0

  two-retyped : (h : Head) (ts : Terms) → Heads (KeepsTests f) (Spine h ts)
      → push (antecedent (Spine (retype_head f h) (retype_all f ts))) (consequent (Spine (retype_head f h) (retype_all f ts)))
      ≡ retype f (push (antecedent (Spine h ts)) (consequent (Spine h ts)))
  unfolding retype
  two-retyped h Nil p = push-retype (Spine h Nil) (Spine h Nil) p
  two-retyped h (tm_cons t Nil) p = push-retype t (Spine h (tm_cons t Nil)) p
  two-retyped h (tm_cons t (tm_cons u us)) p = push-retype t u p.1.1.0

  hhf_spine-retype : (h : Head) (ts : Terms) → Heads (KeepsTests f) (Spine h ts) → hhf_spine (retype_head f h) (retype_all f ts) ≡ retype f (hhf_spine h ts)
  unfolding retype
  hhf_spine-retype h ts p =
      choice (retype f) (is_imp (retype_head f h) && are_two (retype_all f ts)) (is_imp h && are_two ts) _ _ _ _
      (λ i. p.0.0 i && are_two-retyped ts i) (λ e. two-retyped h ts p) refl

  mutual
    unfolding hhf retype

    hhf-retype : (t : Term) → Heads (KeepsTests f) t → hhf (retype f t) ≡ retype f (hhf t)
    hhf-retype (lam a b) p = ap (eta (map_typ f a)) (hhf-retype b p) ∙ sym (retype-eta f a (hhf b))
    hhf-retype (Spine h ts) p = ap (hhf_spine (retype_head f h)) (hhf_all-retype ts p.1) ∙ hhf_spine-retype h (hhf_all ts) (p.0, all-hhf ts p.1)

    hhf_all-retype : (ts : Terms) → AllHeads (KeepsTests f) ts → hhf_all (retype_all f ts) ≡ retype_all f (hhf_all ts)
    hhf_all-retype Nil p = refl
    hhf_all-retype (tm_cons t ts) p = let x = hhf-retype t p.0 in let y = hhf_all-retype ts p.1 in λ i. tm_cons (x i) (y i)

pub retype_hhf : RetypePassesHhf
retype_hhf = hhf-retype
