use Rattle.std.proofs.Common.{refl}
use Rattle.iv_term.specs.Term.{cons_is}
use Rattle.iv_hsub.specs.Index.{front, lower_all}
use Rattle.iv_hsub.proofs.contraction.+lower_front.Goals as goal

pub returns-in-Nil-clause-ok : goal.returns-in-Nil-clause-ok
unfolding front lower_all
returns-in-Nil-clause-ok t c = rw c.in-Nil.is refl

pub returns-then-is_nil-clause-ok : goal.returns-then-is_nil-clause-ok
unfolding front lower_all
returns-then-is_nil-clause-ok t c = rw (c.in-Cons.is, cons_is, ← c.get.ensures, ← c.is_nil.ensures.same, c.if-is_nil.true) refl

pub returns-in_ok-first-in-Cons-clause-ok : goal.returns-in_ok-first-in-Cons-clause-ok
unfolding front lower_all
returns-in_ok-first-in-Cons-clause-ok t c =
    rw (c.in-Cons.is, cons_is, ← c.get.ensures, ← c.is_nil.ensures.same, c.if-is_nil.false, ← c.get-in-Cons-2.ensures, ← c.in_ok-first-in-Cons.ensures.ok 0 refl)
    (rw (c.in_ok-more-in-Cons.ensures.ok, c.get-in-Cons.ensures, ← c.get.ensures) at c.cons.ensures.ok)
