use Rattle.iv_conclusions.proofs.Deciding.{begins_yes, begins_no, begins_not}
use Rattle.iv_conclusions.proofs.conditions.is_equal_to.Goals as goal

pub returns-then-is_prop : goal.returns-then-is_prop
returns-then-is_prop c =
    begins_yes _ _ _ _ (c.is_equation.ensures.0 c.if-not-is_equation.false) (rw c.side_type.ensures at (c.is_prop.ensures.0 c.if-is_prop.true)) (rw c.lhs.ensures at c.is.ensures.equal)

pub returns-else-is_prop : goal.returns-else-is_prop
returns-else-is_prop c = begins_no _ _ _ _ (rw c.side_type.ensures at c.is_prop.ensures) c.if-is_prop.false

pub returns-then-not-is_equation : goal.returns-then-not-is_equation
returns-then-not-is_equation c = begins_not _ _ _ _ c.is_equation.ensures c.if-not-is_equation.true
