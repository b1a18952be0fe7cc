use Rattle.std.proofs.Common.{◌-◌, arith}
use Rattle.iv_kernel.proofs.Goals.{leads-now, leads-later, leads-no, leads-unformed}
use Rattle.iv_kernel.proofs.goal.+leads_to.Goals as goal

pub returns-then-count-eq0-clause-ok : goal.returns-then-count-eq0-clause-ok
returns-then-count-eq0-clause-ok t c = leads-now _ _ _ _ (omega arith) c.is.ensures.equal

pub returns-then-not-is_implication-clause-ok : goal.returns-then-not-is_implication-clause-ok
returns-then-not-is_implication-clause-ok t c =
    leads-no c.args.count (c.args.count - 1) _ _ _ (omega arith) c.if-not-is_implication.true c.is_implication.ensures

pub returns-then-not-formed-clause-ok : goal.returns-then-not-formed-clause-ok
returns-then-not-formed-clause-ok t c =
    leads-unformed c.args.count (c.args.count - 1) _ _ _ (omega arith) c.if-not-formed.true (rw c.antecedent.ensures at c.in_ok-formed.ensures.ok)

pub returns-clause-ok : goal.returns-clause-ok
returns-clause-ok t c =
    leads-later c.args.count (c.args.count - 1) _ _ _ (omega arith) (c.is_implication.ensures.0 c.if-not-is_implication.false)
    ((rw c.antecedent.ensures at c.in_ok-formed.ensures.ok).0 c.if-not-formed.false) (rw c.consequent.ensures at c.leads_to.ensures.ok)
