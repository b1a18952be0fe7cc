use Rattle.std.proofs.Common.{refl}
use Rattle.iv_term.specs.Term.{cons_is}
use Rattle.iv_hsub.specs.Hsub.{append}
use Rattle.iv_hsub.proofs.substitution.+append.Goals as goal

pub returns-in-Nil-clause-ok : goal.returns-in-Nil-clause-ok
unfolding append
returns-in-Nil-clause-ok t c = rw c.in-Nil.is refl

pub returns-in_ok-share-in-Cons-clause-ok : goal.returns-in_ok-share-in-Cons-clause-ok
unfolding append
returns-in_ok-share-in-Cons-clause-ok t c =
    rw (c.in-Cons.is, cons_is c.in-Cons.t c.in-Cons.rest, c.in_ok-share-in-Cons.ensures, c.in_ok-more-in-Cons-2.ensures, c.in_ok-more-in-Cons.ensures.ok, c.get.ensures) (cons_is _ _)
