use Rattle.std.proofs.Common.{◌≡◌, ◌++◌, drop}
use Rattle.iv_instance.specs.Converted.{typed_entries}
use Rattle.iv_instance.proofs.conversion.terms_of.Given as goal

abbrev pub invariant-loop-i : goal.invariant-loop-i
invariant-loop-i l = l.copy ++ drop l.i (typed_entries l.s.1) ≡ typed_entries l.s.1
