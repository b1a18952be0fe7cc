use Rattle.std.proofs.Common.{◌-◌, arith}
use Rattle.iv_term.specs.Term.{cons_is}
use Rattle.iv_kernel.proofs.Orders.{removed-none, removed-first, removed-later, built}
use Rattle.iv_kernel.proofs.rotate.+without_at.Goals as goal

pub returns-in-Nil-clause-ok : goal.returns-in-Nil-clause-ok
returns-in-Nil-clause-ok t c = rw c.in-Nil.is (removed-none _)

pub returns-then-place-eq0-clause-ok : goal.returns-then-place-eq0-clause-ok
returns-then-place-eq0-clause-ok t c =
    rw (c.in-Cons.is, cons_is, ← c.get.ensures) (built _ _ _ c.copy.ensures.ok (removed-first c.args.place _ _ (omega arith)))

pub returns-in_ok-copy-in-Cons-clause-ok : goal.returns-in_ok-copy-in-Cons-clause-ok
returns-in_ok-copy-in-Cons-clause-ok t c =
    rw (c.in-Cons.is, cons_is, ← c.get-in-Cons.ensures, ← c.get-in-Cons-2.ensures)
    (built _ _ _ c.cons.ensures.ok (rw c.in_ok-copy-in-Cons.ensures.ok (removed-later c.args.place (c.args.place - 1) _ _ _ (omega arith) c.in_ok-more-in-Cons.ensures.ok)))
