use Rattle.iv_term.specs.Hyps.{among}
use Rattle.iv_term.specs.Term.{cons_is}
use Rattle.iv_term.proofs.term.Terms.+has.Goals as goal

pub returns-in-Nil : goal.returns-in-Nil
unfolding among
returns-in-Nil t c = rw c.in-Nil.is

pub returns-then-is : goal.returns-then-is
unfolding among
returns-then-is t c = rw (c.in-Cons.is, cons_is, ← c.get.ensures, ← c.is.ensures.same, c.if-is.true)

pub returns-else-is : goal.returns-else-is
unfolding among
returns-else-is t c = rw (c.in-Cons.is, cons_is, ← c.get.ensures, ← c.is.ensures.same, c.if-is.false, ← c.get-else-is.ensures) c.has.ensures
