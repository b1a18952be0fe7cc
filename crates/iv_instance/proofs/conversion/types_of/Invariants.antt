use Rattle.std.proofs.Common.{◌≡◌, ◌++◌, drop}
use Rattle.iv_instance.proofs.conversion.types_of.Given as goal

abbrev pub invariant-loop-i : goal.invariant-loop-i
invariant-loop-i l = l.copy ++ drop l.i l.s ≡ l.s
