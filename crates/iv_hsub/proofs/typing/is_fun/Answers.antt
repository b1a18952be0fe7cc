use Rattle.iv_hsub.proofs.Terms.Types.{fun_when}
use Rattle.iv_hsub.proofs.typing.is_fun.Goals as goal

pub returns-then-is_chars : goal.returns-then-is_chars
returns-then-is_chars c = rw c.in-Con.is (fun_when _ _ _ (c.is_chars.ensures.0 c.if-is_chars.true) c.are_two.ensures)
