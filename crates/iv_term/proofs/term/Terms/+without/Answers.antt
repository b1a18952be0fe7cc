use Rattle.iv_term.specs.Hyps.{without}
use Rattle.iv_term.specs.Term.{cons_is}
use Rattle.iv_term.proofs.term.Terms.+without.Goals as goal

pub returns-in-Nil-clause-ok : goal.returns-in-Nil-clause-ok
unfolding without
returns-in-Nil-clause-ok t c = rw c.in-Nil.is

pub returns-then-is-clause-ok : goal.returns-then-is-clause-ok
unfolding without
returns-then-is-clause-ok t c = rw (c.in-Cons.is, cons_is, ← c.get.ensures, ← c.get-in-Cons.ensures, ← c.is.ensures.same, c.if-is.true) c.in_ok-rest-in-Cons.ensures.ok

pub returns-in_ok-copy-in-Cons-clause-ok : goal.returns-in_ok-copy-in-Cons-clause-ok
unfolding without
returns-in_ok-copy-in-Cons-clause-ok t c =
    rw (c.in-Cons.is, cons_is, ← c.get-in-Cons.ensures, ← c.is.ensures.same, c.if-is.false)
    (rw (c.in_ok-rest-in-Cons.ensures.ok, c.get.ensures, c.in_ok-copy-in-Cons.ensures.ok, c.get-else-is.ensures, ← c.get-in-Cons.ensures) at c.cons.ensures.ok)
