use Rattle.iv_kernel.specs.Goal.{OpenGoal}
use Rattle.iv_kernel.proofs.Results.{known}
use Rattle.iv_kernel.proofs.Goals.{one-premise, premises-one}
use Rattle.iv_kernel.proofs.goal.Goal.init.Goals as goal

pub made-requires : goal.made-requires
made-requires c = one-premise _ _ _ c.in_ok-thm.ensures.prop (c.hhf_is_a_normal_form.ensures.once _ _ c.requires.0)

pub returns-clause-subgoals : goal.returns-clause-subgoals
returns-clause-subgoals c = known {T = OpenGoal} _ (λ g. g.subgoals) _ _ c.made.ensures.subgoals (premises-one _ _ _ c.in_ok-thm.ensures.prop)
