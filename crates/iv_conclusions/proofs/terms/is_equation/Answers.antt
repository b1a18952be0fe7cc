use Rattle.iv_conclusions.proofs.Deciding.{equation_yes, equation_no}
use Rattle.iv_conclusions.proofs.terms.is_equation.Goals as goal

pub returns-then-is_eq : goal.returns-then-is_eq
returns-then-is_eq c = rw c.in-Spine.is (equation_yes _ _ _ (c.is_eq.ensures.0 c.if-is_eq.true) c.are_two.ensures)

pub returns-else-is_eq : goal.returns-else-is_eq
returns-else-is_eq c = rw c.in-Spine.is (equation_no _ _ _ c.is_eq.ensures c.if-is_eq.false)
