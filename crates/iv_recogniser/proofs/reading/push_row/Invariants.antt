use Rattle.std.proofs.Common.{◌≡◌, ◌++◌}
use Rattle.iv_recogniser.proofs.reading.push_row.Given as goal

abbrev pub invariant-loop-symbol : goal.invariant-loop-symbol
invariant-loop-symbol l = l.stack.items ≡ l.fn.stack.items ++ l.yielded
