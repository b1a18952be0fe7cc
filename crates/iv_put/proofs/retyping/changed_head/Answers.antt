use Rattle.iv_put.proofs.Facts.Code.{const-changed, free-changed, schematic-changed}
use Rattle.iv_put.proofs.retyping.changed_head.Goals as goal

pub returns-in_ok-typ-in-Const-clause-ok : goal.returns-in_ok-typ-in-Const-clause-ok
returns-in_ok-typ-in-Const-clause-ok c = rw c.in-Const.is (const-changed _ _ c.in_ok-typ-in-Const.typ _ _ c.constant.ensures.ok c.in_ok-typ-in-Const.ensures.ok)

pub returns-in_ok-typ-in-Free-clause-ok : goal.returns-in_ok-typ-in-Free-clause-ok
returns-in_ok-typ-in-Free-clause-ok c = rw c.in-Free.is (free-changed _ _ c.in_ok-typ-in-Free.typ _ _ c.free.ensures.ok c.in_ok-typ-in-Free.ensures.ok)

pub returns-in_ok-typ-in-Schematic-clause-ok : goal.returns-in_ok-typ-in-Schematic-clause-ok
returns-in_ok-typ-in-Schematic-clause-ok c =
    rw c.in-Schematic.is (schematic-changed _ _ c.in_ok-typ-in-Schematic.typ _ _ c.schematic.ensures.ok c.in_ok-typ-in-Schematic.ensures.ok)
