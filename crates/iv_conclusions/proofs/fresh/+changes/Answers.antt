use Rattle.iv_term.specs.Term.{abs_is, cons_is}
use Rattle.iv_rules.specs.Instance.{changes, changes_any}
use Rattle.iv_conclusions.proofs.fresh.+changes.Goals as goal

pub changes-returns-then-changes_typ : goal.changes-returns-then-changes_typ
unfolding changes
changes-returns-then-changes_typ t c = rw (c.in-Abs.is, abs_is, ← c.changes_typ.ensures, c.if-changes_typ.true)

pub changes-returns-else-changes_typ : goal.changes-returns-else-changes_typ
unfolding changes
changes-returns-else-changes_typ t c = rw (c.in-Abs.is, abs_is, ← c.changes_typ.ensures, c.if-changes_typ.false, ← c.get.ensures) c.changes.ensures

pub changes-returns-then-is_changed : goal.changes-returns-then-is_changed
unfolding changes
changes-returns-then-is_changed t c = rw (c.in-Spine.is, ← c.is_changed.ensures, c.if-is_changed.true)

pub changes-returns-else-is_changed : goal.changes-returns-else-is_changed
unfolding changes
changes-returns-else-is_changed t c = rw (c.in-Spine.is, ← c.is_changed.ensures, c.if-is_changed.false) c.changes_any.ensures

pub changes_any-returns-in-Nil : goal.changes_any-returns-in-Nil
unfolding changes_any
changes_any-returns-in-Nil t c = rw c.in-Nil.is

pub changes_any-returns-then-changes : goal.changes_any-returns-then-changes
unfolding changes_any
changes_any-returns-then-changes t c = rw (c.in-Cons.is, cons_is, ← c.get.ensures, ← c.changes.ensures, c.if-changes.true)

pub changes_any-returns-else-changes : goal.changes_any-returns-else-changes
unfolding changes_any
changes_any-returns-else-changes t c =
    rw (c.in-Cons.is, cons_is, ← c.get.ensures, ← c.changes.ensures, c.if-changes.false, ← c.get-else-changes.ensures) c.changes_any.ensures
