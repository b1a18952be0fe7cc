use Rattle.iv_put.proofs.Facts.Loops.{Under}
use Rattle.iv_put.proofs.substitution.Subst.add_under.Given as goal

abbrev pub invariant-loop-i : goal.invariant-loop-i
invariant-loop-i l = Under l.next l.self.1 l.fn.both l.both l.i
