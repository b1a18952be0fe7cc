use Rattle.iv_conclusions.proofs.Deciding.{const_yes, const_no}
use Rattle.iv_conclusions.proofs.terms.is_eq.Goals as goal

pub returns-then-is_chars : goal.returns-then-is_chars
returns-then-is_chars c = rw c.in-Const.is (const_yes _ _ _ _ _ (c.is_chars.ensures.0 c.if-is_chars.true) c.is_eq_typ.ensures)

pub returns-else-is_chars : goal.returns-else-is_chars
returns-else-is_chars c = rw c.in-Const.is (const_no _ _ _ _ _ c.is_chars.ensures c.if-is_chars.false)
