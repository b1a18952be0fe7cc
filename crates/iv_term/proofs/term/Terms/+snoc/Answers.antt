use Rattle.iv_term.specs.Hyps.{snoc}
use Rattle.iv_term.specs.Term.{cons_is}
use Rattle.iv_term.proofs.term.Terms.+snoc.Goals as goal

pub returns-in-Nil-clause-ok : goal.returns-in-Nil-clause-ok
unfolding snoc
returns-in-Nil-clause-ok t c = rw c.in-Nil.is c.only.ensures.ok

pub returns-in_ok-copy-in-Cons-clause-ok : goal.returns-in_ok-copy-in-Cons-clause-ok
unfolding snoc
returns-in_ok-copy-in-Cons-clause-ok t c = rw (c.in-Cons.is, cons_is, ← c.get.ensures, ← c.in_ok-rest-in-Cons.ensures.ok, ← c.get-in-Cons.ensures, ← c.in_ok-copy-in-Cons.ensures.ok) c.cons.ensures.ok
