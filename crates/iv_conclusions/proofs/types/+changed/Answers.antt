use Rattle.std.proofs.Common.{refl}
use Rattle.iv_term.specs.declared.typ.Typ.TheBlock.{Con}
use Rattle.iv_term.specs.Typ.{cons_is, ty_cons}
use Rattle.iv_hsub.specs.Retype.{map_typ, map_typs}
use Rattle.iv_conclusions.proofs.Facts.{found-put, one-put, two-put}
use Rattle.iv_conclusions.proofs.types.+changed.Goals as goal

pub changed-returns-in_ok-args-in-Con-clause-ok : goal.changed-returns-in_ok-args-in-Con-clause-ok
unfolding map_typ
changed-returns-in_ok-args-in-Con-clause-ok t c =
    rw c.in-Con.is (one-put (Con _) _ c.in_ok-args-in-Con.args _ _ c.with_args.ensures.ok c.in_ok-args-in-Con.ensures.ok)

pub changed-returns-in-Fixed-clause-ok : goal.changed-returns-in-Fixed-clause-ok
unfolding map_typ
changed-returns-in-Fixed-clause-ok t c = rw c.in-Fixed.is (found-put _ _ _ _ c.copy_of.ensures.ok c.get.ensures)

pub changed-returns-in-Schematic-clause-ok : goal.changed-returns-in-Schematic-clause-ok
unfolding map_typ
changed-returns-in-Schematic-clause-ok t c = rw c.in-Schematic.is (found-put _ _ _ _ c.copy_of-in-Schematic.ensures.ok c.get-in-Schematic.ensures)

pub changed_all-returns-in-Nil-clause-ok : goal.changed_all-returns-in-Nil-clause-ok
unfolding map_typs
changed_all-returns-in-Nil-clause-ok t c = rw c.in-Nil.is refl

pub changed_all-returns-in_ok-more-in-Cons-clause-ok : goal.changed_all-returns-in_ok-more-in-Cons-clause-ok
unfolding map_typs
changed_all-returns-in_ok-more-in-Cons-clause-ok t c =
    let first = rw c.get.ensures at c.in_ok-first-in-Cons.ensures.ok in
    let more = rw c.get-in-Cons.ensures at c.in_ok-more-in-Cons.ensures.ok in
    rw (c.in-Cons.is, cons_is)
    (two-put (λ x xs. ty_cons x xs) _ c.in_ok-first-in-Cons.first c.in_ok-more-in-Cons.more _ _ _ _ _ c.with_parts.ensures.ok first more)
