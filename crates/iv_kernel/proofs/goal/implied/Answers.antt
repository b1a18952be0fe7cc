use Rattle.std.proofs.Common.{refl, ap}
use Rattle.iv_term.specs.Term.{imp}
use Rattle.iv_rules.specs.Rules.{Proved}
use Rattle.iv_kernel.proofs.Results.{known}
use Rattle.iv_kernel.proofs.Goals.{without-only}
use Rattle.iv_kernel.proofs.goal.implied.Goals as goal

pub imp_intr-requires : goal.imp_intr-requires
imp_intr-requires c = rw c.requires.form (c.hhf_is_a_normal_form.ensures.typed _ _ _ c.requires.claim)

pub returns-clause-prop : goal.returns-clause-prop
returns-clause-prop c = known {T = Proved} _ (λ z. z.prop) _ _ c.imp_intr.ensures.prop (ap (imp c.args.form.now) c.in_ok-concluded.ensures.prop)

pub returns-clause-hyps : goal.returns-clause-hyps
returns-clause-hyps c =
    known {T = Proved} _ (λ z. z.hyps) _ _ c.imp_intr.ensures.hyps
    (rw c.in_ok-concluded.ensures.hyps (without-only c.hypotheses_are_told_apart.ensures _))

pub returns-clause-derivation : goal.returns-clause-derivation
returns-clause-derivation c =
    known {T = Proved} _ (λ z. z.derivation) _ _ c.imp_intr.ensures.derivation (rw c.in_ok-concluded.ensures.derivation refl)
