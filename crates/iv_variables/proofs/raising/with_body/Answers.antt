use Rattle.iv_term.specs.Term.{abs_is}
use Rattle.iv_variables.proofs.raising.with_body.Goals as goal

pub returns-in_ok-copy-in-Some-body-clause-ok : goal.returns-in_ok-copy-in-Some-body-clause-ok
returns-in_ok-copy-in-Some-body-clause-ok c =
    rw (c.in-None.is, c.in-Some-body.is, c.in_ok-copy-in-Some-body.ensures.ok, c.in_ok-body-in-Some-body.ensures) (abs_is _ _)

pub returns-in_ok-body-in-Some-clause-ok : goal.returns-in_ok-body-in-Some-clause-ok
returns-in_ok-body-in-Some-clause-ok c = rw (c.in-Some.is, c.in_ok-body-in-Some.ensures.ok) (abs_is _ _)
