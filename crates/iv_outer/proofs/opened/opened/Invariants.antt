use Rattle.std.proofs.Common.{◌≡◌}
use Rattle.iv_outer.specs.Opened.{opened}
use Rattle.iv_outer.proofs.opened.opened.Given as goal

abbrev pub invariant-loop-left : goal.invariant-loop-left
invariant-loop-left l = opened l.left l.now.items ≡ opened l.fn.times l.fn.lexemes.items

abbrev pub decreases-loop-left : goal.decreases-loop-left
decreases-loop-left l = l.left
