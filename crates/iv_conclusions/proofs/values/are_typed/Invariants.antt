use Rattle.std.proofs.Common.{drop}
use Rattle.iv_rules.specs.Instance.{AreTyped}
use Rattle.iv_conclusions.proofs.values.are_typed.Given as goal

abbrev pub invariant-loop-i : goal.invariant-loop-i
invariant-loop-i l = (AreTyped l.values → AreTyped (drop l.i l.values)) × (AreTyped (drop l.i l.values) → AreTyped l.values)
