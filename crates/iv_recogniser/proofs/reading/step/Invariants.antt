use Rattle.std.proofs.Common.{◌≡◌, reverse, length}
use Rattle.iv_recogniser.specs.Table.{forms}
use Rattle.iv_recogniser.specs.Step.{step}
use Rattle.iv_recogniser.proofs.reading.step.Given as goal

abbrev pub invariant-loop-symbol : goal.invariant-loop-symbol
invariant-loop-symbol l = step forms (reverse l.stack.items) l.class ≡ step forms (reverse l.fn.stack.items) l.class

abbrev pub decreases-loop-symbol : goal.decreases-loop-symbol
decreases-loop-symbol l = length l.stack.items
