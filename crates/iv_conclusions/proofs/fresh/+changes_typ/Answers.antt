use Rattle.std.proofs.Common.{◌∙◌}
use Rattle.iv_term.specs.Typ.{cons_is}
use Rattle.iv_rules.specs.Instance.{changes_typ, changes_typs}
use Rattle.iv_conclusions.proofs.Facts.{found-some}
use Rattle.iv_conclusions.proofs.fresh.+changes_typ.Goals as goal

pub changes_typ-returns-in-Con : goal.changes_typ-returns-in-Con
unfolding changes_typ
changes_typ-returns-in-Con t c = rw c.in-Con.is c.changes_typs.ensures

pub changes_typ-returns-in-Fixed : goal.changes_typ-returns-in-Fixed
unfolding changes_typ
changes_typ-returns-in-Fixed t c = rw c.in-Fixed.is (c.is_some.ensures ∙ found-some c.get.result _ c.get.ensures)

pub changes_typ-returns-in-Schematic : goal.changes_typ-returns-in-Schematic
unfolding changes_typ
changes_typ-returns-in-Schematic t c = rw c.in-Schematic.is (c.is_some-in-Schematic.ensures ∙ found-some c.get-in-Schematic.result _ c.get-in-Schematic.ensures)

pub changes_typs-returns-in-Nil : goal.changes_typs-returns-in-Nil
unfolding changes_typs
changes_typs-returns-in-Nil t c = rw c.in-Nil.is

pub changes_typs-returns-then-changes_typ : goal.changes_typs-returns-then-changes_typ
unfolding changes_typs
changes_typs-returns-then-changes_typ t c = rw (c.in-Cons.is, cons_is, ← c.get.ensures, ← c.changes_typ.ensures, c.if-changes_typ.true)

pub changes_typs-returns-else-changes_typ : goal.changes_typs-returns-else-changes_typ
unfolding changes_typs
changes_typs-returns-else-changes_typ t c =
    rw (c.in-Cons.is, cons_is, ← c.get.ensures, ← c.changes_typ.ensures, c.if-changes_typ.false, ← c.get-else-changes_typ.ensures) c.changes_typs.ensures
