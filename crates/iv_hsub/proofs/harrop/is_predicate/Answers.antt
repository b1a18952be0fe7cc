use Rattle.iv_hsub.proofs.Terms.Moves.{predicate_when, predicate_not}
use Rattle.iv_hsub.proofs.harrop.is_predicate.Goals as goal

pub returns-then-is_fun : goal.returns-then-is_fun
returns-then-is_fun c = predicate_when _ _ (c.is_fun.ensures.0 c.if-is_fun.true) (rw c.cod.ensures at c.is_prop.ensures)

pub returns-else-is_fun : goal.returns-else-is_fun
returns-else-is_fun c = predicate_not _ _ c.is_fun.ensures c.if-is_fun.false
