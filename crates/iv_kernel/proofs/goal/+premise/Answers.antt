use Rattle.std.proofs.Common.{◌-◌, arith}
use Rattle.iv_kernel.proofs.Goals.{premise-first, premise-later}
use Rattle.iv_kernel.proofs.goal.+premise.Goals as goal

pub returns-then-skipped-eq0 : goal.returns-then-skipped-eq0
returns-then-skipped-eq0 t c =
    rw c.antecedent.ensures (premise-first c.args.count (c.args.count - 1) c.args.prop.now c.args.skipped (omega arith) (omega arith))

pub returns : goal.returns
returns t c =
    premise-later c.args.count (c.args.count - 1) c.args.prop.now c.args.skipped (c.args.skipped - 1) _ (omega arith) (omega arith)
    (rw c.consequent.ensures at c.premise.ensures)
