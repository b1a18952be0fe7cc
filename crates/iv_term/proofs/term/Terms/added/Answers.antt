use Rattle.iv_term.specs.Hyps.{added}
use Rattle.iv_term.proofs.term.Terms.added.Goals as goal

pub returns-then-has-clause-ok : goal.returns-then-has-clause-ok
unfolding added
returns-then-has-clause-ok c = rw (← c.has.ensures, c.if-has.true) c.copy.ensures.ok

pub returns-else-has-clause-ok : goal.returns-else-has-clause-ok
unfolding added
returns-else-has-clause-ok c = rw (← c.has.ensures, c.if-has.false) c.snoc.ensures.ok
