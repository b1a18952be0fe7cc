use Rattle.iv_term.specs.declared.term.Head.TheVariants.{Const, Free, Schematic}
use Rattle.iv_conclusions.proofs.Facts.{one-put}
use Rattle.iv_conclusions.proofs.types.changed_head.Goals as goal

pub returns-in_ok-typ-in-Const-clause-ok : goal.returns-in_ok-typ-in-Const-clause-ok
returns-in_ok-typ-in-Const-clause-ok c = rw c.in-Const.is (one-put (Const _) _ c.in_ok-typ-in-Const.typ _ _ c.constant.ensures.ok c.in_ok-typ-in-Const.ensures.ok)

pub returns-in_ok-typ-in-Free-clause-ok : goal.returns-in_ok-typ-in-Free-clause-ok
returns-in_ok-typ-in-Free-clause-ok c = rw c.in-Free.is (one-put (Free _) _ c.in_ok-typ-in-Free.typ _ _ c.free.ensures.ok c.in_ok-typ-in-Free.ensures.ok)

pub returns-in_ok-typ-in-Schematic-clause-ok : goal.returns-in_ok-typ-in-Schematic-clause-ok
returns-in_ok-typ-in-Schematic-clause-ok c =
    rw c.in-Schematic.is (one-put (Schematic _) _ c.in_ok-typ-in-Schematic.typ _ _ c.schematic.ensures.ok c.in_ok-typ-in-Schematic.ensures.ok)
