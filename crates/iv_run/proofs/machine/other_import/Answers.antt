use Rattle.std.proofs.Common.{arith}
use Rattle.iv_run.proofs.MachineSteps.{other-here}
use Rattle.iv_run.proofs.machine.other_import.Goals as goal

pub returns-then-not-is_pure : goal.returns-then-not-is_pure
returns-then-not-is_pure c =
    other-here c.args.imports.now c.loop-import.import-index c.import-item.result (omega arith) c.import-item.is (rw c.is_pure.ensures at c.if-not-is_pure.true) c.loop-import.invariant
