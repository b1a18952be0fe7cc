use Rattle.std.proofs.Common.{subst, arith}
use Rattle.iv_term.specs.declared.typ.Typ.TheBlock.{Schematic}
use Rattle.iv_term.specs.Typ.{cons_is}
use Rattle.iv_subst.specs.TySubst.{put_typ, put_typs, occurs, occurs_any}
use Rattle.iv_subst.specs.Solved.{IsHead}
use Rattle.iv_subst.specs.Pairs.{size, size_all}
use Rattle.iv_subst.proofs.Laws.Heads.{head-variable}
use Rattle.iv_subst.proofs.heads.+is_inside.Goals as goal

pub is_inside-is_inside_any-requires : goal.is_inside-is_inside_any-requires
unfolding put_typ size
is_inside-is_inside_any-requires t c = (rw (← c.decreases, ← c.head.ensures.same, c.in-Con.is) (omega arith), c.requires)

pub is_inside-returns-in-Con : goal.is_inside-returns-in-Con
unfolding put_typ occurs
is_inside-returns-in-Con t c = rw (← c.head.ensures.same, c.in-Con.is) c.is_inside_any.ensures

pub is_inside-returns-in-Fixed : goal.is_inside-returns-in-Fixed
unfolding put_typ occurs
is_inside-returns-in-Fixed t c = rw (← c.head.ensures.same, c.in-Fixed.is)

pub is_inside-returns-in-Schematic : goal.is_inside-returns-in-Schematic
unfolding occurs
is_inside-returns-in-Schematic t c =
    let top : IsHead c.args.es.now (Schematic c.in-Schematic.x) = subst (IsHead c.args.es.now) c.in-Schematic.is c.head.ensures.head in
    rw (← c.head.ensures.same, c.in-Schematic.is, head-variable c.args.es.now c.requires c.in-Schematic.x top) c.is.ensures.same

pub is_inside_any-is_inside-requires : goal.is_inside_any-is_inside-requires
unfolding put_typs size_all
is_inside_any-is_inside-requires t c = (rw (← c.decreases, c.in-Cons.is, cons_is, c.get.ensures) (omega arith), c.requires)

pub is_inside_any-returns-then-is_inside : goal.is_inside_any-returns-then-is_inside
unfolding put_typs occurs_any
is_inside_any-returns-then-is_inside t c = rw (c.in-Cons.is, cons_is, ← c.get.ensures, ← c.is_inside.ensures, c.if-is_inside.true)

pub is_inside_any-is_inside_any-requires : goal.is_inside_any-is_inside_any-requires
unfolding put_typs size_all
is_inside_any-is_inside_any-requires t c = (rw (← c.decreases, c.in-Cons.is, cons_is, c.get-in-Cons.ensures) (omega arith), c.requires)

pub is_inside_any-returns-in-Nil : goal.is_inside_any-returns-in-Nil
unfolding put_typs occurs_any
is_inside_any-returns-in-Nil t c = rw c.in-Nil.is

pub is_inside_any-returns-else-is_inside : goal.is_inside_any-returns-else-is_inside
unfolding put_typs occurs_any
is_inside_any-returns-else-is_inside t c =
    rw (c.in-Cons.is, cons_is, ← c.get.ensures, ← c.is_inside.ensures, c.if-is_inside.false, ← c.get-in-Cons.ensures) c.is_inside_any.ensures
