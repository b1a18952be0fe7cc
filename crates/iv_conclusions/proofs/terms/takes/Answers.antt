use Rattle.iv_conclusions.proofs.Deciding.{takes_yes, takes_no}
use Rattle.iv_conclusions.proofs.terms.takes.Goals as goal

pub returns-then-is_fun : goal.returns-then-is_fun
returns-then-is_fun c = takes_yes _ _ _ (c.is_fun.ensures.0 c.if-is_fun.true) (rw c.dom.ensures at c.is.ensures.equal)

pub returns-else-is_fun : goal.returns-else-is_fun
returns-else-is_fun c = takes_no _ _ _ c.is_fun.ensures c.if-is_fun.false
