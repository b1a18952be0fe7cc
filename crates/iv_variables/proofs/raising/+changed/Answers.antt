use Rattle.std.proofs.Common.{refl}
use Rattle.iv_term.specs.Term.{abs_is, cons_is}
use Rattle.iv_variables.specs.Variables.{variables, terms_variables}
use Rattle.iv_variables.specs.Raised.{raised, raised_all}
use Rattle.iv_variables.proofs.Changed.{exit, of_first, of_second, abs-changed, spine-changed, cons-changed}
use Rattle.iv_variables.proofs.raising.+changed.Goals as goal

pub changed-returns-in_err-body-in-Abs-clause-number : goal.changed-returns-in_err-body-in-Abs-clause-number
unfolding raised variables
changed-returns-in_err-body-in-Abs-clause-number t c =
    rw (c.in-Abs.is, abs_is, ← c.get.ensures)
    (exit c.from_residual.result _ _ c.from_residual.ensures.1 (λ q. of_second 4294967295 _ _ (c.in_err-body-in-Abs.ensures.number q)))

pub changed-returns-in_err-typ-in-Abs-clause-number : goal.changed-returns-in_err-typ-in-Abs-clause-number
unfolding raised variables
changed-returns-in_err-typ-in-Abs-clause-number t c =
    rw (c.in-Abs.is, abs_is)
    (exit c.from_residual-in_err-typ-in-Abs.result _ _ c.from_residual-in_err-typ-in-Abs.ensures.1 (λ q. of_first 4294967295 _ _ (c.in_err-typ-in-Abs.ensures.number q)))

pub changed-returns-in_err-args-in-Spine-clause-number : goal.changed-returns-in_err-args-in-Spine-clause-number
unfolding raised variables
changed-returns-in_err-args-in-Spine-clause-number t c =
    rw c.in-Spine.is
    (exit c.from_residual-in_err-args-in-Spine.result _ _ c.from_residual-in_err-args-in-Spine.ensures.1 (λ q. of_second 4294967295 _ _ (c.in_err-args-in-Spine.ensures.number q)))

pub changed-returns-in_err-head-in-Spine-clause-number : goal.changed-returns-in_err-head-in-Spine-clause-number
unfolding raised variables
changed-returns-in_err-head-in-Spine-clause-number t c =
    rw c.in-Spine.is
    (exit c.from_residual-in_err-head-in-Spine.result _ _ c.from_residual-in_err-head-in-Spine.ensures.1 (λ q. of_first 4294967295 _ _ (c.in_err-head-in-Spine.ensures.number q)))

pub changed-returns-in_ok-typ-in-Abs-clause-ok : goal.changed-returns-in_ok-typ-in-Abs-clause-ok
unfolding raised
changed-returns-in_ok-typ-in-Abs-clause-ok t c =
    let body = rw c.get.ensures at c.in_ok-body-in-Abs.ensures.ok in
    rw (c.in-Abs.is, abs_is) (abs-changed _ c.in_ok-typ-in-Abs.typ c.in_ok-body-in-Abs.body _ _ _ _ c.with_body.ensures.ok c.in_ok-typ-in-Abs.ensures.ok body)

pub changed-returns-in_ok-head-in-Spine-clause-ok : goal.changed-returns-in_ok-head-in-Spine-clause-ok
unfolding raised
changed-returns-in_ok-head-in-Spine-clause-ok t c =
    rw c.in-Spine.is (spine-changed _ c.in_ok-head-in-Spine.head c.in_ok-args-in-Spine.args _ _ _ _ c.with_args.ensures.ok c.in_ok-head-in-Spine.ensures.ok c.in_ok-args-in-Spine.ensures.ok)

pub changed_all-returns-in_err-first-in-Cons-clause-number : goal.changed_all-returns-in_err-first-in-Cons-clause-number
unfolding raised_all terms_variables
changed_all-returns-in_err-first-in-Cons-clause-number t c =
    rw (c.in-Cons.is, cons_is, ← c.get.ensures)
    (exit c.from_residual.result _ _ c.from_residual.ensures.1 (λ q. of_first 4294967295 _ _ (c.in_err-first-in-Cons.ensures.number q)))

pub changed_all-returns-in_err-more-in-Cons-clause-number : goal.changed_all-returns-in_err-more-in-Cons-clause-number
unfolding raised_all terms_variables
changed_all-returns-in_err-more-in-Cons-clause-number t c =
    rw (c.in-Cons.is, cons_is, ← c.get-in-Cons.ensures)
    (exit c.from_residual-in_err-more-in-Cons.result _ _ c.from_residual-in_err-more-in-Cons.ensures.1 (λ q. of_second 4294967295 _ _ (c.in_err-more-in-Cons.ensures.number q)))

pub changed_all-returns-in-Nil-clause-ok : goal.changed_all-returns-in-Nil-clause-ok
unfolding raised_all
changed_all-returns-in-Nil-clause-ok t c = rw c.in-Nil.is refl

pub changed_all-returns-in_ok-more-in-Cons-clause-ok : goal.changed_all-returns-in_ok-more-in-Cons-clause-ok
unfolding raised_all
changed_all-returns-in_ok-more-in-Cons-clause-ok t c =
    let first = rw c.get.ensures at c.in_ok-first-in-Cons.ensures.ok in
    let more = rw c.get-in-Cons.ensures at c.in_ok-more-in-Cons.ensures.ok in
    rw (c.in-Cons.is, cons_is) (cons-changed _ c.in_ok-first-in-Cons.first c.in_ok-more-in-Cons.more _ _ _ _ c.with_parts.ensures.ok first more)
