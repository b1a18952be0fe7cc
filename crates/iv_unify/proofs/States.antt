-- The state of a search: what was found leads from the first scope to that of the pairs which are left, and what makes these alike makes the
-- first ones alike.
use Rattle.std.proofs.Common.{◌≡◌, List, [], ◌∷◌, refl, sym, ◌∙◌, ap, subst}
use Rattle.iv_hsub.specs.Typing.{IsTerm}
use Rattle.iv_subst.specs.TySubst.{put_typs, at}
use Rattle.iv_put.specs.Subst.{Substitution, applied, composed}
use Rattle.iv_put.proofs.Theory.{maps-by}
use Rattle.iv_put.proofs.Facts.Entries.{applied-nothing}
use Rattle.iv_term.specs.declared.term.Term.{Term}
use Rattle.iv_term.specs.declared.typ.Types.{Types}
use Rattle.iv_unify.specs.declared.pair.Pair.{Pair}
use Rattle.iv_unify.specs.Pairs.{under, all_under}
use Rattle.iv_unify.specs.Scope.{Scope, Over, Leads}
use Rattle.iv_unify.specs.Laws.{IsOver, AreOver, AreAlike}
use Rattle.iv_unify.proofs.Scopes.{leads-over, leads-term, leads-composed, leads-both, nothing_leads}

-- pairs under what leads on
pub leads-put : (e : Substitution) (G D : Scope) → Leads e G D → (bs : Types) (t : Term) → IsTerm bs t → Over G t → IsTerm (put_typs (at e.0) bs) (applied e t)
leads-put e G D l bs t p q = subst (λ z. IsTerm z (applied e t)) (maps-by e.0 bs) (leads-term e G D l bs t p q).0

pub over-under : (e : Substitution) (G D : Scope) → Leads e G D → (p : Pair) → IsOver G p → IsOver D (under e p)
over-under e G D l p o = record {
  left_term = leads-put e G D l p.bounds p.left o.left_term o.left_over;
  right_term = leads-put e G D l p.bounds p.right o.right_term o.right_over;
  left_over = leads-over e G D l p.left o.left_over;
  right_over = leads-over e G D l p.right o.right_over;
}

pub all_over-under : (e : Substitution) (G D : Scope) → Leads e G D → (ps : List Pair) → AreOver G ps → AreOver D (all_under e ps)
unfolding AreOver all_under
all_over-under e G D l [] o = tt
all_over-under e G D l (p ∷ ps) o = (over-under e G D l p o.0, all_over-under e G D l ps o.1)

-- alike under one substitution after another, and under both
alike-both : (e g : Substitution) (G D E : Scope) → Leads e G D → Leads g D E → (ps : List Pair) → AreOver G ps → AreAlike g (all_under e ps) → AreAlike (composed e g) ps
unfolding AreOver AreAlike all_under
alike-both e g G D E l m [] o a = tt
alike-both e g G D E l m (p ∷ ps) o a = (
  leads-both e g G D E l m p.bounds p.left o.0.left_term o.0.left_over ∙ a.0 ∙ sym (leads-both e g G D E l m p.bounds p.right o.0.right_term o.0.right_over),
  alike-both e g G D E l m ps o.1 a.1,
)

pub alike-after : (e g : Substitution) (G D E : Scope) → Leads e G D → Leads g D E → (ps : List Pair) → AreOver G ps → AreAlike (composed e g) ps → AreAlike g (all_under e ps)
unfolding AreOver AreAlike all_under
alike-after e g G D E l m [] o a = tt
alike-after e g G D E l m (p ∷ ps) o a = (
  sym (leads-both e g G D E l m p.bounds p.left o.0.left_term o.0.left_over) ∙ a.0 ∙ leads-both e g G D E l m p.bounds p.right o.0.right_term o.0.right_over,
  alike-after e g G D E l m ps o.1 a.1,
)

alike-nothing : (G : Scope) (ps : List Pair) → AreOver G ps → AreAlike ([], []) ps → (s : Substitution) (F : Scope) (qs : List Pair) → ps ≡ all_under s qs → AreAlike s qs
unfolding AreOver AreAlike all_under
alike-nothing G ps o a s F [] q = tt
alike-nothing G [] o a s F (r ∷ qs) q = absurd (let bad : [] ≡ under s r ∷ all_under s qs = q in cc)
alike-nothing G (p ∷ ps) o a s F (r ∷ qs) q =
    let h : p ≡ under s r = cc in
    let t : ps ≡ all_under s qs = cc in (
      ap (λ z. z.left) (sym h) ∙ sym (applied-nothing p.bounds p.left o.0.left_term) ∙ a.0 ∙ applied-nothing p.bounds p.right o.0.right_term ∙ ap (λ z. z.right) h,
      alike-nothing G ps o.1 a.1 s F qs t,
    )

-- the first pairs are qs over F
pub record State (F : Scope) (qs : List Pair) (G : Scope) (ps : List Pair) (s : Substitution) : Type 0 where
  pub leads : Leads s F G
  pub left_over : AreOver G ps
  pub back : (e : Substitution) (D : Scope) → Leads e G D → AreAlike e ps → AreAlike e (all_under s qs)

module _ (F : Scope) (qs : List Pair) (first : AreOver F qs) where
  pub begins : State F qs F qs ([], [])
  unfolding AreOver AreAlike all_under
  begins = record {
    leads = nothing_leads F;
    left_over = first;
    back = λ e D l a. go qs first e a;
  }
    where
      go : (rs : List Pair) → AreOver F rs → (e : Substitution) → AreAlike e rs → AreAlike e (all_under ([], []) rs)
      go [] o e a = tt
      go (r ∷ rs) o e a =
          (ap (applied e) (applied-nothing r.bounds r.left o.0.left_term) ∙ a.0 ∙ sym (ap (applied e) (applied-nothing r.bounds r.right o.0.right_term)), go rs o.1 e a.1)

  -- what is left is replaced by other pairs, after a substitution that leads on
  pub steps : (G D : Scope) (ps rs : List Pair) (s g : Substitution) → State F qs G ps s → Leads g G D → AreOver D rs
      → ((e : Substitution) (E : Scope) → Leads e D E → AreAlike e rs → AreAlike e (all_under g ps)) → State F qs D rs (composed s g)
  unfolding AreOver AreAlike all_under
  steps G D ps rs s g st l o k = record {
    leads = leads-composed s g F G D st.leads l;
    left_over = o;
    back = λ e E m a.
        let c = leads-composed g e G D E l m in
        let b = st.back (composed g e) E c (alike-both g e G D E l m ps st.left_over (k e E m a)) in
        go e E m qs first b;
  }
    where
      go : (e : Substitution) (E : Scope) → Leads e D E → (rs : List Pair) → AreOver F rs → AreAlike (composed g e) (all_under s rs) → AreAlike e (all_under (composed s g) rs)
      go e E m [] o b = tt
      go e E m (r ∷ rs) o b =
          let side : (t : Term) → IsTerm r.bounds t → Over F t → applied e (applied (composed s g) t) ≡ applied (composed g e) (applied s t) =
          λ t p q. ap (applied e) (leads-both s g F G D st.leads l r.bounds t p q)
          ∙ sym (leads-both g e G D E l m (put_typs (at s.0) r.bounds) (applied s t) (leads-put s F G st.leads r.bounds t p q) (leads-over s F G st.leads t q)) in
          (side r.left o.0.left_term o.0.left_over ∙ b.0 ∙ sym (side r.right o.0.right_term o.0.right_over), go e E m rs o.1 b.1)

  -- where nothing is left, the first pairs are alike
  pub ends : (G : Scope) (s : Substitution) → State F qs G [] s → AreAlike s qs
  unfolding AreAlike
  ends G s st =
      alike-nothing G (all_under s qs) (all_over-under s F G st.leads qs first) (st.back ([], []) G (nothing_leads G) tt) s F qs refl
