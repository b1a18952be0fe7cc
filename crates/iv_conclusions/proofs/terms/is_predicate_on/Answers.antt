use Rattle.iv_conclusions.proofs.Deciding.{predicate_yes, predicate_no}
use Rattle.iv_conclusions.proofs.terms.is_predicate_on.Goals as goal

pub returns-then-takes : goal.returns-then-takes
returns-then-takes c = predicate_yes _ _ _ (c.takes.ensures.0 c.if-takes.true) (rw c.cod.ensures at c.is_prop.ensures)

pub returns-else-takes : goal.returns-else-takes
returns-else-takes c = predicate_no _ _ _ c.takes.ensures c.if-takes.false
