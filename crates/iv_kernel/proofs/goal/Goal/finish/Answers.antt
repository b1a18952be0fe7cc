use Rattle.std.proofs.Common.{◌≡◌, length, sym, ◌∙◌, ap, subst}
use Rattle.iv_kernel.proofs.Goals.{length-premises_of, none-left}
use Rattle.iv_kernel.specs.Goal.{IsGoalProp}
use Rattle.iv_kernel.proofs.goal.Goal.finish.Goals as goal

pub returns-clause-prop : goal.returns-clause-prop
returns-clause-prop c =
    let n : c.self.inside.count ≡ 0 = sym (length-premises_of _ _) ∙ ap (λ g. length g.subgoals) c.self.view_is ∙ ap length c.requires in
    none-left _ _ (subst (λ k. IsGoalProp k c.self.inside.thm.prop c.self.inside.claim) n c.self.invariant.0) ∙ ap (λ g. g.claim) c.self.view_is
