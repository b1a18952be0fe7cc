use Rattle.std.proofs.Common.{refl, suc}
use Rattle.iv_term.specs.Term.{abs_is, cons_is}
use Rattle.iv_hsub.specs.Index.{lower, lower_all}
use Rattle.iv_hsub.proofs.contraction.+lower.Goals as goal

pub lower-returns-in_ok-body-in-Abs-clause-ok : goal.lower-returns-in_ok-body-in-Abs-clause-ok
unfolding lower
lower-returns-in_ok-body-in-Abs-clause-ok t c =
    λ d h. rw (c.in-Abs.is, abs_is, ← c.get.ensures, ← c.in_ok-body-in-Abs.ensures.ok (suc d) (c.under.ensures.next d h)) c.abs.ensures.ok

pub lower-returns-in_ok-lower_head-in-Spine-clause-ok : goal.lower-returns-in_ok-lower_head-in-Spine-clause-ok
unfolding lower
lower-returns-in_ok-lower_head-in-Spine-clause-ok t c =
    λ d h. rw (c.in-Spine.is, ← c.in_ok-args-in-Spine.ensures.ok d h, ← c.in_ok-lower_head-in-Spine.ensures.ok d h) refl

pub lower_all-returns-in-Nil-clause-ok : goal.lower_all-returns-in-Nil-clause-ok
unfolding lower_all
lower_all-returns-in-Nil-clause-ok t c = λ d h. rw c.in-Nil.is refl

pub lower_all-returns-in_ok-first-in-Cons-clause-ok : goal.lower_all-returns-in_ok-first-in-Cons-clause-ok
unfolding lower_all
lower_all-returns-in_ok-first-in-Cons-clause-ok t c =
    λ d h. rw (c.in-Cons.is, cons_is, ← c.get.ensures, ← c.get-in-Cons.ensures, ← c.in_ok-first-in-Cons.ensures.ok d h, ← c.in_ok-more-in-Cons.ensures.ok d h) c.cons.ensures.ok
