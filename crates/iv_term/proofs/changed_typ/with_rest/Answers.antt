use Rattle.iv_term.specs.Typ.{cons_is}
use Rattle.iv_term.proofs.changed_typ.with_rest.Goals as goal

pub returns-in_ok-share-in-Some-clause-ok : goal.returns-in_ok-share-in-Some-clause-ok
returns-in_ok-share-in-Some-clause-ok c = rw (c.in-Some.is, c.in_ok-share-in-Some.ensures, c.in_ok-rest-in-Some.ensures) (cons_is _ _)
