use Rattle.iv_hsub.proofs.Terms.Moves.{all_test}
use Rattle.iv_hsub.proofs.harrop.is_all.Goals as goal

pub returns-then-is_chars : goal.returns-then-is_chars
returns-then-is_chars c = rw c.in-Const.is (all_test _ _ _ (c.is_chars.ensures.0 c.if-is_chars.true) c.is_all_typ.ensures)
