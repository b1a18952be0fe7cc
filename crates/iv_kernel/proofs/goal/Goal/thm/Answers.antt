use Rattle.std.proofs.Common.{◌≡◌, ap, subst}
use Rattle.iv_kernel.specs.Goal.{goal_prop, AreInForm}
use Rattle.iv_kernel.proofs.goal.Goal.thm.Goals as goal

pub returns-clause-prop : goal.returns-clause-prop
returns-clause-prop c = subst (λ g. g.thm.prop ≡ goal_prop g.subgoals g.claim) c.self.view_is c.self.invariant.0

pub returns-clause-form : goal.returns-clause-form
returns-clause-form c = subst AreInForm (ap (λ g. g.subgoals) c.self.view_is) c.self.invariant.1
