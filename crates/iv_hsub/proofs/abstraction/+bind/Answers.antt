use Rattle.std.proofs.Common.{refl, add-one}
use Rattle.iv_term.specs.Term.{abs_is, cons_is}
use Rattle.iv_hsub.specs.Abstract.{bind, bind_all}
use Rattle.iv_hsub.proofs.abstraction.+bind.Goals as goal

pub bind-returns-in_ok-body-in-Abs-clause-ok : goal.bind-returns-in_ok-body-in-Abs-clause-ok
unfolding bind
bind-returns-in_ok-body-in-Abs-clause-ok t c =
    rw (c.in-Abs.is, abs_is, ← c.get.ensures, ← add-one, ← c.in_ok-inner-in-Abs.ensures.ok, ← c.in_ok-body-in-Abs.ensures.ok) c.abs.ensures.ok

pub bind-returns-in_ok-bind_head-in-Spine-clause-ok : goal.bind-returns-in_ok-bind_head-in-Spine-clause-ok
unfolding bind
bind-returns-in_ok-bind_head-in-Spine-clause-ok t c =
    rw (c.in-Spine.is, ← c.in_ok-args-in-Spine.ensures.ok, ← c.in_ok-bind_head-in-Spine.ensures.ok) refl

pub bind_all-returns-in-Nil-clause-ok : goal.bind_all-returns-in-Nil-clause-ok
unfolding bind_all
bind_all-returns-in-Nil-clause-ok t c = rw c.in-Nil.is refl

pub bind_all-returns-in_ok-first-in-Cons-clause-ok : goal.bind_all-returns-in_ok-first-in-Cons-clause-ok
unfolding bind_all
bind_all-returns-in_ok-first-in-Cons-clause-ok t c =
    rw (c.in-Cons.is, cons_is, ← c.get.ensures, ← c.get-in-Cons.ensures, ← c.in_ok-first-in-Cons.ensures.ok, ← c.in_ok-more-in-Cons.ensures.ok) c.cons.ensures.ok
