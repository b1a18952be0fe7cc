use Rattle.iv_subst.proofs.Laws.Going.{Going, left_to_go}
use Rattle.iv_subst.proofs.unify.unify.Given as goal

abbrev pub invariant-loop-pairs : goal.invariant-loop-pairs
invariant-loop-pairs l = Going l.fn.es l.es l.a l.b l.pairs.items

abbrev pub decreases-loop-pairs : goal.decreases-loop-pairs
decreases-loop-pairs l = left_to_go l.a l.b l.fn.es l.es
