use Rattle.iv_conclusions.proofs.Deciding.{begins_yes, begins_no, begins_not}
use Rattle.iv_conclusions.proofs.conditions.begins.Goals as goal

pub returns-then-is : goal.returns-then-is
returns-then-is c =
    begins_yes _ _ _ _ (c.is_equation.ensures.0 c.if-not-is_equation.false) (rw c.side_type.ensures at (c.is.ensures.equal.0 c.if-is.true)) (rw c.lhs.ensures at c.is-then-is.ensures.equal)

pub returns-else-is : goal.returns-else-is
returns-else-is c = begins_no _ _ _ _ (rw c.side_type.ensures at c.is.ensures.equal) c.if-is.false

pub returns-then-not-is_equation : goal.returns-then-not-is_equation
returns-then-not-is_equation c = begins_not _ _ _ _ c.is_equation.ensures c.if-not-is_equation.true
