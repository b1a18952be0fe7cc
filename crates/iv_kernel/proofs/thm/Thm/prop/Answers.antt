use Rattle.std.proofs.Common.{ap, subst}
use Rattle.iv_rules.specs.Sequent.{IsProp}
use Rattle.iv_kernel.proofs.thm.Thm.prop.Goals as goal

pub returns-clause-prop : goal.returns-clause-prop
returns-clause-prop c =
    let s = c.conclusions_are_sequents.ensures.sequent _ _ c.self.invariant in subst IsProp (ap (λ t. t.prop) c.self.view_is) s.prop
