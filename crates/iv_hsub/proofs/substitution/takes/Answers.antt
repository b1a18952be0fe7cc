use Rattle.iv_hsub.proofs.Terms.Steps.{takes_when, takes_not}
use Rattle.iv_hsub.proofs.substitution.takes.Goals as goal

pub returns-then-is_fun : goal.returns-then-is_fun
returns-then-is_fun c = takes_when _ _ _ (c.is_fun.ensures.0 c.if-is_fun.true) (rw c.dom.ensures at c.is.ensures.equal)

pub returns-else-is_fun : goal.returns-else-is_fun
returns-else-is_fun c = takes_not _ _ _ c.is_fun.ensures c.if-is_fun.false
