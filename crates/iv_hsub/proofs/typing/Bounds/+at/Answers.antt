use Rattle.iv_hsub.specs.Bounds.{types_in}
use Rattle.iv_hsub.proofs.Terms.Types.{at_first, at_next}
use Rattle.iv_hsub.proofs.typing.Bounds.+at.Goals as goal

pub returns-in-Outer : goal.returns-in-Outer
unfolding types_in
returns-in-Outer t c = rw c.in-Outer.is c.type_at.ensures

pub returns-then-n-eq0 : goal.returns-then-n-eq0
unfolding types_in
returns-then-n-eq0 t c = rw c.in-Under.is (at_first _ _ _ c.if-n-eq0.true)

pub returns-else-n-eq0 : goal.returns-else-n-eq0
unfolding types_in
returns-else-n-eq0 t c = rw c.in-Under.is (at_next _ _ _ _ c.if-n-eq0.false c.at.ensures)
