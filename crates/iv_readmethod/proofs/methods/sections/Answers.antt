use Rattle.std.proofs.Common.{rules}
use Rattle.iv_readmethod.proofs.Joins.{lists_next}
use Rattle.iv_readmethod.proofs.methods.sections.Goals as goal

pub loop-step-preserved : goal.loop-step-preserved
loop-step-preserved c = lists_next _ _ _ _ _ _ _ _ _ _ c.loop-step.invariant c.loop-step-test.true (search rules) (search rules) c.in_ok-more.ensures.ok
