use Rattle.iv_term.specs.Typ.{cons_is}
use Rattle.iv_subst.specs.TySubst.{put_typ, put_typs}
use Rattle.iv_subst.proofs.Laws.Entries.{con-changed, value-changed, parts-changed}
use Rattle.iv_subst.proofs.apply.+changed.Goals as goal

pub changed-returns-in_ok-args-in-Con-clause-ok : goal.changed-returns-in_ok-args-in-Con-clause-ok
unfolding put_typ
changed-returns-in_ok-args-in-Con-clause-ok t c =
    rw c.in-Con.is (con-changed _ _ c.in_ok-args-in-Con.args _ _ c.with_args.ensures.ok c.in_ok-args-in-Con.ensures.ok)

pub changed-returns-in-Fixed-clause-ok : goal.changed-returns-in-Fixed-clause-ok
unfolding put_typ
changed-returns-in-Fixed-clause-ok t c = rw c.in-Fixed.is

pub changed-returns-in-Schematic-clause-ok : goal.changed-returns-in-Schematic-clause-ok
unfolding put_typ
changed-returns-in-Schematic-clause-ok t c = rw c.in-Schematic.is (value-changed _ _ _ _ c.copy_of.ensures.ok c.get.ensures)

pub changed_all-returns-in-Nil-clause-ok : goal.changed_all-returns-in-Nil-clause-ok
unfolding put_typs
changed_all-returns-in-Nil-clause-ok t c = rw c.in-Nil.is

pub changed_all-returns-in_ok-rest-in-Cons-clause-ok : goal.changed_all-returns-in_ok-rest-in-Cons-clause-ok
unfolding put_typs
changed_all-returns-in_ok-rest-in-Cons-clause-ok t c =
    let first = rw c.get.ensures at c.in_ok-first-in-Cons.ensures.ok in
    let rest = rw c.get-in-Cons.ensures at c.in_ok-rest-in-Cons.ensures.ok in
    rw (c.in-Cons.is, cons_is) (parts-changed _ c.in_ok-first-in-Cons.first c.in_ok-rest-in-Cons.rest _ _ _ _ c.with_parts.ensures.ok first rest)
