use Rattle.std.proofs.Common.{◌≡◌, ◌++◌, drop}
use Rattle.iv_list.proofs.items.Items.copy.Given as goal

abbrev pub invariant-loop-item : goal.invariant-loop-item
invariant-loop-item g l = l.copy ++ drop l.item-index l.item-items ≡ l.self
