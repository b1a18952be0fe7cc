use Rattle.std.proofs.Common.{◌-◌, arith}
use Rattle.iv_term.specs.Term.{cons_is}
use Rattle.iv_kernel.proofs.Orders.{inserted-first, inserted-last, inserted-later, built}
use Rattle.iv_kernel.proofs.rotate.+with_at.Goals as goal

pub returns-then-place-eq0-clause-ok : goal.returns-then-place-eq0-clause-ok
returns-then-place-eq0-clause-ok t c =
    built _ _ _ c.cons.ensures.ok (rw (c.in_ok-copy.ensures.ok, c.in_ok-copy-2.ensures.ok) (inserted-first c.args.place _ _ (omega arith)))

pub returns-in-Nil-clause-ok : goal.returns-in-Nil-clause-ok
returns-in-Nil-clause-ok t c = rw c.in-Nil.is (built _ _ _ c.only.ensures.ok (inserted-last c.args.place (c.args.place - 1) _ (omega arith)))

pub returns-in_ok-copy-in-Cons-clause-ok : goal.returns-in_ok-copy-in-Cons-clause-ok
returns-in_ok-copy-in-Cons-clause-ok t c =
    rw (c.in-Cons.is, cons_is, ← c.get.ensures, ← c.get-in-Cons.ensures)
    (built _ _ _ c.cons-in-Cons.ensures.ok
    (rw c.in_ok-copy-in-Cons.ensures.ok (inserted-later c.args.place (c.args.place - 1) _ _ _ _ (omega arith) c.in_ok-more-in-Cons.ensures.ok)))
