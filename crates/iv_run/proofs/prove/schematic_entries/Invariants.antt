use Rattle.std.proofs.Common.{◌≡◌, [], drop}
use Rattle.iv_run.specs.Statement.{with_entry, with_entries}
use Rattle.iv_run.proofs.prove.schematic_entries.Given as goal

abbrev pub invariant-loop-premise : goal.invariant-loop-premise
invariant-loop-premise l = with_entries (drop l.premise-index l.premises) l.entries ≡ with_entries l.premises (with_entry l.conclusion [])
