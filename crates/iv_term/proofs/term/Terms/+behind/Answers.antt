use Rattle.iv_term.specs.Hyps.{union}
use Rattle.iv_term.specs.Term.{cons_is}
use Rattle.iv_term.proofs.term.Terms.+behind.Goals as goal

pub returns-in-Nil-clause-ok : goal.returns-in-Nil-clause-ok
unfolding union
returns-in-Nil-clause-ok t c = rw c.in-Nil.is c.copy.ensures.ok

pub returns-in_ok-longer-in-Cons-clause-ok : goal.returns-in_ok-longer-in-Cons-clause-ok
unfolding union
returns-in_ok-longer-in-Cons-clause-ok t c =
    rw (c.in-Cons.is, cons_is) (rw (c.in_ok-longer-in-Cons.ensures.ok, c.get.ensures, c.get-in-Cons.ensures) at c.behind.ensures.ok)
