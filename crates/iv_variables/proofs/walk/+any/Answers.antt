use Rattle.std.proofs.Common.{refl}
use Rattle.iv_term.specs.Term.{abs_is, cons_is}
use Rattle.iv_variables.specs.Variables.{variables, terms_variables}
use Rattle.iv_variables.proofs.Parts.{found, missed}
use Rattle.iv_variables.proofs.walk.+any.Goals as goal

pub any-returns-then-any_in_typ : goal.any-returns-then-any_in_typ
unfolding variables
any-returns-then-any_in_typ g t c =
    rw (c.in-Abs.is, abs_is) (found (g.T.Test.passes c.args.test.now) _ _ _ c.any_in_typ.ensures c.if-any_in_typ.true)

pub any-returns-else-any_in_typ : goal.any-returns-else-any_in_typ
unfolding variables
any-returns-else-any_in_typ g t c =
    rw (c.in-Abs.is, abs_is, ← c.get.ensures)
    (missed (g.T.Test.passes c.args.test.now) _ _ _ _ c.any_in_typ.ensures c.if-any_in_typ.false c.any.ensures)

pub any-returns-then-any_in_head : goal.any-returns-then-any_in_head
unfolding variables
any-returns-then-any_in_head g t c =
    rw c.in-Spine.is (found (g.T.Test.passes c.args.test.now) _ _ _ c.any_in_head.ensures c.if-any_in_head.true)

pub any-returns-else-any_in_head : goal.any-returns-else-any_in_head
unfolding variables
any-returns-else-any_in_head g t c =
    rw c.in-Spine.is (missed (g.T.Test.passes c.args.test.now) _ _ _ _ c.any_in_head.ensures c.if-any_in_head.false c.any_in_terms.ensures)

pub any_in_terms-returns-in-Nil : goal.any_in_terms-returns-in-Nil
unfolding terms_variables
any_in_terms-returns-in-Nil g t c = rw c.in-Nil.is refl

pub any_in_terms-returns-then-any : goal.any_in_terms-returns-then-any
unfolding terms_variables
any_in_terms-returns-then-any g t c =
    rw (c.in-Cons.is, cons_is, ← c.get.ensures) (found (g.T.Test.passes c.args.test.now) _ _ _ c.any.ensures c.if-any.true)

pub any_in_terms-returns-else-any : goal.any_in_terms-returns-else-any
unfolding terms_variables
any_in_terms-returns-else-any g t c =
    rw (c.in-Cons.is, cons_is, ← c.get.ensures, ← c.get-else-any.ensures)
    (missed (g.T.Test.passes c.args.test.now) _ _ _ _ c.any.ensures c.if-any.false c.any_in_terms.ensures)
