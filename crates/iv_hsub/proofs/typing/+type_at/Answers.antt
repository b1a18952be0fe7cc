use Rattle.std.proofs.Common.{arith}
use Rattle.iv_term.specs.Typ.{cons_is}
use Rattle.iv_hsub.specs.Typing.{types_len}
use Rattle.iv_hsub.proofs.Terms.Types.{at_first, at_next}
use Rattle.iv_hsub.proofs.typing.+type_at.Goals as goal

pub returns-in-Nil : goal.returns-in-Nil
unfolding types_len
returns-in-Nil t c = rw c.in-Nil.is (omega arith)

pub returns-then-n-eq0 : goal.returns-then-n-eq0
returns-then-n-eq0 t c = rw (c.in-Cons.is, cons_is, c.get.ensures) (at_first _ _ _ c.if-n-eq0.true)

pub returns-else-n-eq0 : goal.returns-else-n-eq0
returns-else-n-eq0 t c =
    rw (c.in-Cons.is, cons_is) (at_next _ _ _ _ c.if-n-eq0.false (rw c.get-else-n-eq0.ensures at c.type_at.ensures))
