use Rattle.std.proofs.Common.{◌≡◌, ◌++◌, drop}
use Rattle.iv_map.proofs.name_map.NameMap.copy.Given as goal

abbrev pub invariant-loop-i : goal.invariant-loop-i
invariant-loop-i g l = l.copy ++ drop l.i l.self ≡ l.self
