use Rattle.iv_hsub.proofs.Terms.Moves.{all_typ_when, all_typ_not}
use Rattle.iv_hsub.proofs.harrop.is_all_typ.Goals as goal

pub returns-then-is_predicate : goal.returns-then-is_predicate
returns-then-is_predicate c = all_typ_when _ _ (c.is_predicate.ensures.0 c.if-is_predicate.true) (rw c.dom.ensures at c.is_predicate-then-is_predicate.ensures)

pub returns-else-is_predicate : goal.returns-else-is_predicate
returns-else-is_predicate c = all_typ_not _ _ c.is_predicate.ensures c.if-is_predicate.false
