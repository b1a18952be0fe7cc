use Rattle.std.proofs.Common.{sym, ◌∙◌, arith}
use Rattle.iv_run.proofs.Generalising.{with_entries-step, with_entries-end}
use Rattle.iv_run.proofs.prove.schematic_entries.Goals as goal

pub loop-premise-preserved : goal.loop-premise-preserved
loop-premise-preserved c =
    rw c.in_ok-push_entry-2.ensures.ok
    (sym (with_entries-step c.args.premises.now c.loop-premise.premise-index c.premise-item.result c.loop-premise.entries (omega arith) c.premise-item.is)
    ∙ c.loop-premise.invariant)

pub returns-clause-ok : goal.returns-clause-ok
returns-clause-ok c =
    sym (with_entries-end c.args.premises.now c.loop-premise.premise-index c.loop-premise.entries (omega arith)) ∙ c.loop-premise.invariant
