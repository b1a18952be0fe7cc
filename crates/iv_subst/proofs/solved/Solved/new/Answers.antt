use Rattle.iv_subst.specs.Solved.{grown}
use Rattle.iv_subst.proofs.Laws.Solved.{solved-none}
use Rattle.iv_subst.proofs.solved.Solved.new.Goals as goal

pub invariant_of-result : goal.invariant_of-result
invariant_of-result c = rw c.new.ensures solved-none

pub returns : goal.returns
unfolding grown
returns c = rw c.new.ensures
