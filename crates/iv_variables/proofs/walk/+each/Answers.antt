use Rattle.std.proofs.Common.{refl}
use Rattle.iv_term.specs.Term.{abs_is, cons_is}
use Rattle.iv_variables.specs.Variables.{typ_variables, head_variables, variables, terms_variables}
use Rattle.iv_variables.proofs.Parts.{stepped, of_first, of_second}
use Rattle.iv_variables.proofs.walk.+each.Goals as goal

pub each-returns-in_err-each_in_typ-in-Abs-clause-err : goal.each-returns-in_err-each_in_typ-in-Abs-clause-err
unfolding variables
each-returns-in_err-each_in_typ-in-Abs-clause-err g t c =
    rw (c.in-Abs.is, abs_is) (of_first g.V.Visitor.fails c.from_residual.result _ _ _ c.from_residual.ensures.1 c.in_err-each_in_typ-in-Abs.ensures.err)

pub each-returns-in_ok-each_in_typ-in-Abs-clause-ok : goal.each-returns-in_ok-each_in_typ-in-Abs-clause-ok
unfolding variables
each-returns-in_ok-each_in_typ-in-Abs-clause-ok g t c =
    rw (c.in-Abs.is, abs_is, ← c.get.ensures) (stepped c.each.result g.V.Visitor.step c.args.visitor.now c.each_in_typ.new.visitor c.each.new.visitor (typ_variables c.in-Abs.a) (variables c.get.result.now) c.in_ok-each_in_typ-in-Abs.ensures.ok c.each.ensures.ok)

pub each-returns-in_ok-each_in_typ-in-Abs-clause-err : goal.each-returns-in_ok-each_in_typ-in-Abs-clause-err
unfolding variables
each-returns-in_ok-each_in_typ-in-Abs-clause-err g t c =
    rw (c.in-Abs.is, abs_is, ← c.get.ensures) (of_second g.V.Visitor.fails c.each.result _ _ c.each.ensures.err)

pub each-returns-in_err-each_in_head-in-Spine-clause-err : goal.each-returns-in_err-each_in_head-in-Spine-clause-err
unfolding variables
each-returns-in_err-each_in_head-in-Spine-clause-err g t c =
    rw c.in-Spine.is (of_first g.V.Visitor.fails c.from_residual-in_err-each_in_head-in-Spine.result _ _ _ c.from_residual-in_err-each_in_head-in-Spine.ensures.1 c.in_err-each_in_head-in-Spine.ensures.err)

pub each-returns-in_ok-each_in_head-in-Spine-clause-ok : goal.each-returns-in_ok-each_in_head-in-Spine-clause-ok
unfolding variables
each-returns-in_ok-each_in_head-in-Spine-clause-ok g t c =
    rw c.in-Spine.is (stepped c.each_in_terms.result g.V.Visitor.step c.args.visitor.now c.each_in_head.new.visitor c.each_in_terms.new.visitor (head_variables c.in-Spine.h) (terms_variables c.in-Spine.ts) c.in_ok-each_in_head-in-Spine.ensures.ok c.each_in_terms.ensures.ok)

pub each-returns-in_ok-each_in_head-in-Spine-clause-err : goal.each-returns-in_ok-each_in_head-in-Spine-clause-err
unfolding variables
each-returns-in_ok-each_in_head-in-Spine-clause-err g t c =
    rw c.in-Spine.is (of_second g.V.Visitor.fails c.each_in_terms.result _ _ c.each_in_terms.ensures.err)

pub each_in_terms-returns-in_err-each-in-Cons-clause-err : goal.each_in_terms-returns-in_err-each-in-Cons-clause-err
unfolding terms_variables
each_in_terms-returns-in_err-each-in-Cons-clause-err g t c =
    rw (c.in-Cons.is, cons_is, ← c.get.ensures) (of_first g.V.Visitor.fails c.from_residual.result _ _ _ c.from_residual.ensures.1 c.in_err-each-in-Cons.ensures.err)

pub each_in_terms-returns-in_ok-each-in-Cons-clause-ok : goal.each_in_terms-returns-in_ok-each-in-Cons-clause-ok
unfolding terms_variables
each_in_terms-returns-in_ok-each-in-Cons-clause-ok g t c =
    rw (c.in-Cons.is, cons_is, ← c.get.ensures, ← c.get-in-Cons.ensures) (stepped c.each_in_terms.result g.V.Visitor.step c.args.visitor.now c.each.new.visitor c.each_in_terms.new.visitor (variables c.get.result.now) (terms_variables c.get-in-Cons.result.now) c.in_ok-each-in-Cons.ensures.ok c.each_in_terms.ensures.ok)

pub each_in_terms-returns-in_ok-each-in-Cons-clause-err : goal.each_in_terms-returns-in_ok-each-in-Cons-clause-err
unfolding terms_variables
each_in_terms-returns-in_ok-each-in-Cons-clause-err g t c =
    rw (c.in-Cons.is, cons_is, ← c.get.ensures, ← c.get-in-Cons.ensures) (of_second g.V.Visitor.fails c.each_in_terms.result _ _ c.each_in_terms.ensures.err)

pub each_in_terms-returns-in-Nil-clause-ok : goal.each_in_terms-returns-in-Nil-clause-ok
unfolding terms_variables
each_in_terms-returns-in-Nil-clause-ok g t c = rw c.in-Nil.is refl
