use Rattle.iv_term.specs.Term.{cons_is}
use Rattle.iv_term.proofs.term.Terms.first_or.Goals as goal

pub returns-in-Cons : goal.returns-in-Cons
returns-in-Cons c = rw (c.in-Cons.is, cons_is) c.get.ensures
