use Rattle.std.proofs.Common.{rules}
use Rattle.iv_facts.proofs.Steps.{many_next}
use Rattle.iv_readpart.proofs.commands.more_axioms.Goals as goal

pub loop-step-preserved : goal.loop-step-preserved
loop-step-preserved c = many_next _ _ _ _ _ _ _ _ _ _ c.loop-step.invariant c.loop-step-test.true (search rules) (search rules) c.in_ok-push.ensures.ok
