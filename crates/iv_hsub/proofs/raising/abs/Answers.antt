use Rattle.iv_term.specs.Term.{abs_is}
use Rattle.iv_hsub.proofs.raising.abs.Goals as goal

pub returns-clause-ok : goal.returns-clause-ok
returns-clause-ok c = rw (c.in_ok-copy.ensures.ok, c.in_ok-body.ensures) (abs_is _ _)
