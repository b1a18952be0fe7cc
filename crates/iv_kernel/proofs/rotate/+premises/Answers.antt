use Rattle.std.proofs.Common.{◌-◌, arith}
use Rattle.iv_kernel.proofs.Orders.{premises-none, premises-more, built}
use Rattle.iv_kernel.proofs.rotate.+premises.Goals as goal

pub returns-then-count-eq0-clause-ok : goal.returns-then-count-eq0-clause-ok
returns-then-count-eq0-clause-ok t c = premises-none _ _ (omega arith)

pub returns-clause-ok : goal.returns-clause-ok
returns-clause-ok t c =
    built _ _ _ c.cons.ensures.ok (rw (c.in_ok-copy.ensures.ok, c.antecedent.ensures) (premises-more c.args.count (c.args.count - 1) _ _ (omega arith) (rw c.consequent.ensures at c.in_ok-rest.ensures.ok)))
