use Rattle.iv_term.specs.Term.{cons_is}
use Rattle.iv_term.proofs.term.Terms.is_nil.Goals as goal

pub returns-in-Cons-clause-same : goal.returns-in-Cons-clause-same
returns-in-Cons-clause-same c = rw (c.in-Cons.is, cons_is)
