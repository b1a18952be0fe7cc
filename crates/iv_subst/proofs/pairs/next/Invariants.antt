use Rattle.std.proofs.Common.{None}
use Rattle.iv_subst.specs.TySubst.{at}
use Rattle.iv_subst.specs.Solved.{solved}
use Rattle.iv_subst.specs.Pairs.{IsStep, weight}
use Rattle.iv_subst.proofs.pairs.next.Given as goal

abbrev pub invariant-loop-left : goal.invariant-loop-left
invariant-loop-left l = IsStep l.es l.fn.pairs.items l.pairs.items None

abbrev pub decreases-loop-left : goal.decreases-loop-left
decreases-loop-left l = weight (at (solved l.es)) l.pairs.items
