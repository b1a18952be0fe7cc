use Rattle.iv_term.specs.Typ.{cons_is}
use Rattle.iv_term.proofs.changed_typ.with_parts.Goals as goal

pub returns-in_ok-rest-in-Some-clause-ok : goal.returns-in_ok-rest-in-Some-clause-ok
returns-in_ok-rest-in-Some-clause-ok c = rw (c.in-Some.is, c.in_ok-first-in-Some.ensures, c.in_ok-rest-in-Some.ensures.ok) (cons_is _ _)
