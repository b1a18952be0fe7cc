-- Substitutions that lead from scope to scope.
use Rattle.std.proofs.Common.{◌≡◌, ◌<◌, [], ◌∷◌, Option, Some, None, refl, sym, ◌∙◌, ap, subst, arith}
use Rattle.iv_text.specs.declared.name.Name.{Name}
use Rattle.iv_term.specs.declared.typ.Typ.{Typ}
use Rattle.iv_term.specs.declared.typ.Types.{Types}
use Rattle.iv_term.specs.declared.typ.Typ.TheBlock.{Nil as no_types}
use Rattle.iv_term.specs.declared.term.Head.{Head}
use Rattle.iv_term.specs.declared.term.Head.TheVariants.{Const, Free, Schematic, Bound}
use Rattle.iv_term.specs.declared.term.Term.{Term}
use Rattle.iv_hsub.specs.Typing.{type_of, IsTerm, HasType}
use Rattle.iv_hsub.specs.Retype.{map_typ, map_typs, retype_head, retype}
use Rattle.iv_hsub.specs.Inst.{HeadVars, Fits}
use Rattle.iv_subst.specs.TySubst.{put_typ, at}
use Rattle.iv_put.specs.Subst.{TermMap, Substitution, by_map, value_of, values, Values, under, applied, CanApply, CanCompose, composed}
use Rattle.iv_put.proofs.Theory.{map-by, maps-by, map-composed, value-in, Brings, inst-vars, vars-retype}
use Rattle.iv_put.proofs.Facts.Composed.{then_by_value, then_by}
use Rattle.iv_put.proofs.Facts.Entries.{Values-append, Values-unhidden, value-composed, apply-compose, closed-composed, applied-term, map-nothing}
use Rattle.iv_unify.specs.Scope.{Scope, InScope, Over, Leads, LeadingApplies, LeadingIsOver, LeadingKeepsTypes, LeadingComposes, LeadingIsBoth, NothingLeads}

module _ (e : Substitution) (G D : Scope) (l : Leads e G D) where
  put-same : (x : Name) (a : Typ) → a ≡ G.typ x → put_typ (at e.0) (G.typ x) ≡ map_typ (by_map e.0) a
  put-same x a q = ap (put_typ (at e.0)) (sym q) ∙ sym (map-by e.0 a)

  fits-by : (x : Name) (a : Typ) (o : Option Term) → value_of e.1 x ≡ o → InScope G (Schematic x a) a → Fits o (map_typ (by_map e.0) a)
  fits-by x a None q p = tt
  fits-by x a (Some v) q p = (value-in (IsTerm no_types) e.1 x v l.closed q, l.typed x v p.0 q ∙ put-same x a p.1)

  fits-head : (h : Head) → HeadVars (InScope G) h → HeadVars (λ k a. Fits (values e k) a) (retype_head (by_map e.0) h)
  fits-head (Const c a) p = tt
  fits-head (Free x a) p = tt
  fits-head (Schematic x a) p = fits-by x a (value_of e.1 x) refl p
  fits-head (Bound n) p = tt

  pub leads-can : (t : Term) → Over G t → CanApply e t
  leads-can t p = vars-retype (by_map e.0) (InScope G) (λ k a. Fits (values e k) a) fits-head t p

  brings-head : (h : Head) → HeadVars (InScope G) h → HeadVars (Brings (InScope D) (values e)) (retype_head (by_map e.0) h)
  brings-head (Const c a) p = tt
  brings-head (Free x a) p = (λ v q. absurd (let bad : None ≡ Some v = q in cc), λ q. tt)
  brings-head (Schematic x a) p = (
    λ v q. value-in (Over D) e.1 x v l.over q,
    λ q. (let g = l.grows in let h = p.0 in omega (arith, g, h), sym (l.stays x p.0 q ∙ put-same x a p.1)),
  )
  brings-head (Bound n) p = tt

  pub leads-over : (t : Term) → Over G t → Over D (applied e t)
  leads-over t p = inst-vars (InScope D) (values e) (retype (by_map e.0) t)
      (vars-retype (by_map e.0) (InScope G) (Brings (InScope D) (values e)) brings-head t p)

  pub leads-term : (bs : Types) (t : Term) → IsTerm bs t → Over G t → HasType (map_typs (by_map e.0) bs) (map_typ (by_map e.0) (type_of bs t)) (applied e t)
  leads-term bs t p q = applied-term e bs t p (leads-can t q)

pub leading_applies : LeadingApplies
leading_applies e G D t l p = leads-can e G D l t p

pub leading_over : LeadingIsOver
leading_over e G D t l p = leads-over e G D l t p

pub leading_types : LeadingKeepsTypes
leading_types e G D bs c t l h p =
    let r = leads-term e G D l bs t h.0 p in
    let s = maps-by e.0 bs in
    let u = ap (map_typ (by_map e.0)) h.1 ∙ map-by e.0 c in
    (subst (λ z. IsTerm z (applied e t)) s r.0, ap (λ z. type_of z (applied e t)) (sym s) ∙ r.1 ∙ u)

-- what holds of each value holds of it after a substitution, where that keeps it
values-under : (P Q : Term → Type 0) (g : Substitution) → ((t : Term) → P t → Q (applied g t)) → (es : TermMap) → Values P es → Values Q (under g es)
unfolding Values under
values-under P Q g k [] p = tt
values-under P Q g k (e ∷ es) p = (k e.1 p.0, values-under P Q g k es p.1)

values-one : (P Q : Term → Type 0) → ((t : Term) → P t → Q t) → (es : TermMap) → Values P es → Values Q es
unfolding Values
values-one P Q k [] p = tt
values-one P Q k (e ∷ es) p = (k e.1 p.0, values-one P Q k es p.1)

module _ (e g : Substitution) (G D E : Scope) (l : Leads e G D) (m : Leads g D E) where
  can-compose : CanCompose e g
  can-compose = values-one (Over D) (CanApply g) (leads-can g D E m) e.1 l.over

  both-types : (a : Typ) → put_typ (at (composed e g).0) a ≡ put_typ (at g.0) (put_typ (at e.0) a)
  both-types a =
      sym (map-by (composed e g).0 a) ∙ map-composed e.0 g.0 a ∙ map-by g.0 (map_typ (by_map e.0) a) ∙ ap (put_typ (at g.0)) (map-by e.0 a)

  some-parts : (x y : Term) → Some x ≡ Some y → x ≡ y
  some-parts x y q = cc

  both-typed : (x : Name) (o : Option Term) (v : Term) → x.number < G.below → value_of e.1 x ≡ o
      → then_by_value (by_map g.0) (value_of g.1) o x ≡ Some v → type_of no_types v ≡ put_typ (at (composed e g).0) (G.typ x)
  unfolding then_by_value map_typs
  both-typed x None v n q r =
      m.typed x v (let h = l.grows in omega (arith, h, n)) r ∙ ap (put_typ (at g.0)) (l.stays x n q) ∙ sym (both-types (G.typ x))
  both-typed x (Some w) v n q r =
      let c = value-in (IsTerm no_types) e.1 x w l.closed q in
      let o = value-in (Over D) e.1 x w l.over q in
      let t = leads-term g D E m no_types w c o in
      ap (type_of no_types) (sym (some-parts (applied g w) v r)) ∙ t.1 ∙ map-by g.0 (type_of no_types w)
      ∙ ap (put_typ (at g.0)) (l.typed x w n q) ∙ sym (both-types (G.typ x))

  both-stays : (x : Name) (o : Option Term) → x.number < G.below → value_of e.1 x ≡ o
      → then_by_value (by_map g.0) (value_of g.1) o x ≡ None → E.typ x ≡ put_typ (at (composed e g).0) (G.typ x)
  unfolding then_by_value
  both-stays x None n q r =
      m.stays x (let h = l.grows in omega (arith, h, n)) r ∙ ap (put_typ (at g.0)) (l.stays x n q) ∙ sym (both-types (G.typ x))
  both-stays x (Some w) n q r = absurd (let bad : Some (applied g w) ≡ None = r in cc)

  pub leads-composed : Leads (composed e g) G E
  unfolding then_by
  leads-composed = record {
    closed = closed-composed e g l.closed m.closed can-compose;
    over = Values-append (Over E) (under g e.1) _ (values-under (Over D) (Over E) g (leads-over g D E m) e.1 l.over) (Values-unhidden (Over E) e.1 g.1 m.over);
    typed = λ x v n q. both-typed x (value_of e.1 x) v n refl (sym (value-composed e g x) ∙ q);
    stays = λ x n q. both-stays x (value_of e.1 x) n refl (sym (value-composed e g x) ∙ q);
    grows = let h = l.grows in let k = m.grows in omega (arith, h, k);
  }

  pub leads-both : (bs : Types) (t : Term) → IsTerm bs t → Over G t → applied (composed e g) t ≡ applied g (applied e t)
  leads-both bs t p q =
      apply-compose e g bs t p l.closed m.closed can-compose (leads-can e G D l t q) (leads-can g D E m (applied e t) (leads-over e G D l t q))
      (leads-can (composed e g) G E leads-composed t q)

pub leading_composes : LeadingComposes
leading_composes e g G D E l m = leads-composed e g G D E l m

pub leading_both : LeadingIsBoth
leading_both e g G D E bs t l m p q = leads-both e g G D E l m bs t p q

pub nothing_leads : NothingLeads
unfolding Values value_of
nothing_leads G = record {
  closed = tt;
  over = tt;
  typed = λ x v n q. absurd (let bad : None ≡ Some v = q in cc);
  stays = λ x n q. sym (sym (map-by [] (G.typ x)) ∙ map-nothing (G.typ x));
  grows = omega arith;
}
