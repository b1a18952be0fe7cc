use Rattle.std.proofs.Common.{refl}
use Rattle.iv_term.specs.Term.{abs_is, cons_is}
use Rattle.iv_hsub.specs.Retype.{retype, retype_all}
use Rattle.iv_put.proofs.Facts.Code.{abs-changed, spine-changed, cons-changed}
use Rattle.iv_put.proofs.retyping.+changed.Goals as goal

pub changed-returns-in_ok-typ-in-Abs-clause-ok : goal.changed-returns-in_ok-typ-in-Abs-clause-ok
unfolding retype
changed-returns-in_ok-typ-in-Abs-clause-ok t c =
    let body = rw c.get.ensures at c.in_ok-body-in-Abs.ensures.ok in
    rw (c.in-Abs.is, abs_is) (abs-changed _ _ c.in_ok-typ-in-Abs.typ c.in_ok-body-in-Abs.body _ _ _ c.with_body.ensures.ok c.in_ok-typ-in-Abs.ensures.ok body)

pub changed-returns-in_ok-head-in-Spine-clause-ok : goal.changed-returns-in_ok-head-in-Spine-clause-ok
unfolding retype
changed-returns-in_ok-head-in-Spine-clause-ok t c =
    rw c.in-Spine.is (spine-changed _ c.in_ok-head-in-Spine.head c.in_ok-args-in-Spine.args _ _ _ _ c.with_args.ensures.ok c.in_ok-head-in-Spine.ensures.ok c.in_ok-args-in-Spine.ensures.ok)

pub changed_all-returns-in-Nil-clause-ok : goal.changed_all-returns-in-Nil-clause-ok
unfolding retype_all
changed_all-returns-in-Nil-clause-ok t c = rw c.in-Nil.is refl

pub changed_all-returns-in_ok-more-in-Cons-clause-ok : goal.changed_all-returns-in_ok-more-in-Cons-clause-ok
unfolding retype_all
changed_all-returns-in_ok-more-in-Cons-clause-ok t c =
    let first = rw c.get.ensures at c.in_ok-first-in-Cons.ensures.ok in
    let more = rw c.get-in-Cons.ensures at c.in_ok-more-in-Cons.ensures.ok in
    rw (c.in-Cons.is, cons_is) (cons-changed _ c.in_ok-first-in-Cons.first c.in_ok-more-in-Cons.more _ _ _ _ c.with_parts.ensures.ok first more)
