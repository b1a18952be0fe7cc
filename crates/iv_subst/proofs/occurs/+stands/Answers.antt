use Rattle.std.proofs.Common.{sym, ◌∙◌, ap, arith}
use Rattle.iv_term.specs.Typ.{cons_is}
use Rattle.iv_subst.specs.TySubst.{put_typ, put_typs, occurs, occurs_any}
use Rattle.iv_subst.proofs.Laws.Heads.{unassigned}
use Rattle.iv_subst.proofs.Laws.Occurs.{free-found, free-entered, assigned-same, walk-con, walk-first, walk-rest, walk-value}
use Rattle.iv_subst.proofs.occurs.+stands.Goals as goal

pub stands-stands_in_any-requires : goal.stands-stands_in_any-requires
stands-stands_in_any-requires t c =
    (rw (← c.decreases, c.in-Con.is) (walk-con c.args.es.now c.in-Con._c c.in-Con.ts), (c.requires.solved, c.requires.free))

pub stands-stands_in_value-requires : goal.stands-stands_in_value-requires
stands-stands_in_value-requires t c = (
  rw (← c.decreases, c.in-Schematic.is) (walk-value c.args.es.now c.requires.solved c.in-Schematic.x c.in-Some.value.now (sym c.in-Some.ensures)),
  (c.requires.solved, (sym c.in-Some.ensures, c.requires.free)),
)

pub stands-returns-in-Con-clause-ok : goal.stands-returns-in-Con-clause-ok
unfolding put_typ occurs
stands-returns-in-Con-clause-ok t c = rw c.in-Con.is c.stands_in_any.ensures.ok

pub stands-returns-in-Fixed-clause-ok : goal.stands-returns-in-Fixed-clause-ok
unfolding put_typ occurs
stands-returns-in-Fixed-clause-ok t c = rw c.in-Fixed.is

pub stands-returns-in-None-clause-ok : goal.stands-returns-in-None-clause-ok
unfolding occurs
stands-returns-in-None-clause-ok t c =
    rw (c.in-Schematic.is, ← unassigned c.args.es.now c.requires.solved c.in-Schematic.x c.in-None.ensures) c.is.ensures.same

pub stands_in_any-stands-requires : goal.stands_in_any-stands-requires
stands_in_any-stands-requires t c =
    (rw (← c.decreases, c.in-Cons.is, cons_is, c.get.ensures) (walk-first c.args.es.now c.in-Cons.t c.in-Cons.ts), (c.requires.solved, c.requires.free))

pub stands_in_any-stands_in_any-requires : goal.stands_in_any-stands_in_any-requires
stands_in_any-stands_in_any-requires t c = (
  rw (← c.decreases, c.in-Cons.is, cons_is, c.get-in-Cons.ensures) (walk-rest c.args.es.now c.in-Cons.t c.in-Cons.ts),
  (c.requires.solved, c.in_ok-stands-in-Cons.ensures.free),
)

pub stands_in_any-returns-in-Nil-clause-ok : goal.stands_in_any-returns-in-Nil-clause-ok
unfolding put_typs occurs_any
stands_in_any-returns-in-Nil-clause-ok t c = rw c.in-Nil.is

pub stands_in_any-returns-then-branch-clause-ok : goal.stands_in_any-returns-then-branch-clause-ok
unfolding put_typs occurs_any
stands_in_any-returns-then-branch-clause-ok t c = rw (c.in-Cons.is, cons_is, ← c.get.ensures, ← c.in_ok-stands-in-Cons.ensures.ok, c.if-branch.true)

pub stands_in_any-returns-else-branch-clause-ok : goal.stands_in_any-returns-else-branch-clause-ok
unfolding put_typs occurs_any
stands_in_any-returns-else-branch-clause-ok t c =
    rw (c.in-Cons.is, cons_is, ← c.get.ensures, ← c.in_ok-stands-in-Cons.ensures.ok, c.if-branch.false, ← c.get-in-Cons.ensures) c.stands_in_any.ensures.ok

pub stands_in_value-stands-requires : goal.stands_in_value-stands-requires
stands_in_value-stands-requires t c = (rw (← c.decreases) (omega arith), (c.requires.solved, c.requires.free))

pub stands_in_value-returns-then-has-clause-ok : goal.stands_in_value-returns-then-has-clause-ok
stands_in_value-returns-then-has-clause-ok t c =
    sym (free-found c.args.es.now c.args.name.now c.args.free.now c.args.x.now c.requires.free (sym c.has.ensures ∙ c.if-has.true))

pub stands_in_value-returns-then-branch-clause-ok : goal.stands_in_value-returns-then-branch-clause-ok
stands_in_value-returns-then-branch-clause-ok t c =
    sym c.if-branch.true ∙ c.in_ok-stands.ensures.ok
    ∙ ap (occurs c.args.name.now) (assigned-same c.args.es.now c.requires.solved c.args.x.now c.args.value.now c.requires.assigned)

pub stands_in_value-returns-clause-free : goal.stands_in_value-returns-clause-free
stands_in_value-returns-clause-free t c =
    let same = ap (occurs c.args.name.now) (assigned-same c.args.es.now c.requires.solved c.args.x.now c.args.value.now c.requires.assigned) in
    free-entered c.args.es.now c.args.name.now c.stands.new.free c.enter.new.names c.args.x.now c.in_ok-stands.ensures.free
    (sym same ∙ sym c.in_ok-stands.ensures.ok ∙ c.if-branch.false) c.in_ok-enter.ensures.entered

pub stands_in_value-returns-clause-ok : goal.stands_in_value-returns-clause-ok
stands_in_value-returns-clause-ok t c =
    sym c.if-branch.false ∙ c.in_ok-stands.ensures.ok
    ∙ ap (occurs c.args.name.now) (assigned-same c.args.es.now c.requires.solved c.args.x.now c.args.value.now c.requires.assigned)
