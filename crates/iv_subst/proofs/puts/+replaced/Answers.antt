use Rattle.std.proofs.Common.{◌∙◌, arith}
use Rattle.iv_term.specs.Typ.{cons_is}
use Rattle.iv_subst.specs.TySubst.{put_typ, put_typs}
use Rattle.iv_subst.specs.Pairs.{size, size_all}
use Rattle.iv_subst.proofs.Laws.Entries.{con-changed, parts-changed}
use Rattle.iv_subst.proofs.Laws.Heads.{followed-small, followed-con, unassigned, assigned, assigned-smaller}
use Rattle.iv_subst.proofs.puts.+replaced.Goals as goal

pub replaced-replaced_all-requires : goal.replaced-replaced_all-requires
unfolding put_typ size
replaced-replaced_all-requires t c = (rw (← c.decreases, c.in-Con.is) (omega (arith, followed-con c.args.es.now c.in-Con.c c.in-Con.ts)), c.requires)

pub replaced-returns-in_ok-args-in-Con-clause-ok : goal.replaced-returns-in_ok-args-in-Con-clause-ok
unfolding put_typ
replaced-returns-in_ok-args-in-Con-clause-ok t c =
    rw c.in-Con.is (con-changed _ _ c.in_ok-args-in-Con.args _ _ c.with_args.ensures.ok c.in_ok-args-in-Con.ensures.ok)

pub replaced-returns-in-Fixed-clause-ok : goal.replaced-returns-in-Fixed-clause-ok
unfolding put_typ
replaced-returns-in-Fixed-clause-ok t c = rw c.in-Fixed.is

pub replaced-returns-in-None-clause-ok : goal.replaced-returns-in-None-clause-ok
replaced-returns-in-None-clause-ok t c = rw c.in-Schematic.is (unassigned c.args.es.now c.requires c.in-Schematic.x c.in-None.ensures)

pub replaced-replaced-requires : goal.replaced-replaced-requires
replaced-replaced-requires t c = (
  rw (← c.decreases, c.in-Schematic.is)
      (assigned-smaller c.args.es.now c.requires c.in-Schematic.x c.in-Some.value.now c.head-top.result.now c.in-Some.ensures c.head-top.ensures.same c.head-top.ensures.head),
  c.requires,
)

pub replaced-returns-in_ok-new_or_copy-in-Some-clause-ok : goal.replaced-returns-in_ok-new_or_copy-in-Some-clause-ok
replaced-returns-in_ok-new_or_copy-in-Some-clause-ok t c =
    rw c.in-Schematic.is
    (c.in_ok-new_or_copy-in-Some.ensures.ok ∙ c.in_ok-new-in-Some.ensures.ok
    ∙ assigned c.args.es.now c.requires c.in-Schematic.x c.in-Some.value.now c.head-top.result.now c.in-Some.ensures c.head-top.ensures.same)

pub replaced_all-replaced-requires : goal.replaced_all-replaced-requires
unfolding put_typs size_all
replaced_all-replaced-requires t c =
    let small = followed-small c.args.es.now c.in-Cons.t in
    (rw (← c.decreases, c.in-Cons.is, cons_is, c.get.ensures) (omega (arith, small)), c.requires)

pub replaced_all-replaced_all-requires : goal.replaced_all-replaced_all-requires
unfolding put_typs size_all
replaced_all-replaced_all-requires t c = (rw (← c.decreases, c.in-Cons.is, cons_is, c.get-in-Cons.ensures) (omega arith), c.requires)

pub replaced_all-returns-in-Nil-clause-ok : goal.replaced_all-returns-in-Nil-clause-ok
unfolding put_typs
replaced_all-returns-in-Nil-clause-ok t c = rw c.in-Nil.is

pub replaced_all-returns-in_ok-rest-in-Cons-clause-ok : goal.replaced_all-returns-in_ok-rest-in-Cons-clause-ok
unfolding put_typs
replaced_all-returns-in_ok-rest-in-Cons-clause-ok t c =
    let first = rw c.get.ensures at c.in_ok-first-in-Cons.ensures.ok in
    let rest = rw c.get-in-Cons.ensures at c.in_ok-rest-in-Cons.ensures.ok in
    rw (c.in-Cons.is, cons_is) (parts-changed _ c.in_ok-first-in-Cons.first c.in_ok-rest-in-Cons.rest _ _ _ _ c.with_parts.ensures.ok first rest)
