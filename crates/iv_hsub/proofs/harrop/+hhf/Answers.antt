use Rattle.std.proofs.Common.{refl}
use Rattle.iv_term.specs.Term.{abs_is, cons_is}
use Rattle.iv_hsub.specs.Hhf.{hhf, hhf_all}
use Rattle.iv_hsub.proofs.harrop.+hhf.Goals as goal

pub moved-returns-in_ok-body-in-Abs-clause-ok : goal.moved-returns-in_ok-body-in-Abs-clause-ok
unfolding hhf
moved-returns-in_ok-body-in-Abs-clause-ok t c = rw (c.in-Abs.is, abs_is, ← c.get.ensures, ← c.in_ok-body-in-Abs.ensures.ok) c.eta.ensures.ok

pub moved-returns-in_ok-args-in-Spine-clause-ok : goal.moved-returns-in_ok-args-in-Spine-clause-ok
unfolding hhf
moved-returns-in_ok-args-in-Spine-clause-ok t c = rw (c.in-Spine.is, ← c.in_ok-args-in-Spine.ensures.ok) c.hhf_spine.ensures.ok

pub all_moved-returns-in-Nil-clause-ok : goal.all_moved-returns-in-Nil-clause-ok
unfolding hhf_all
all_moved-returns-in-Nil-clause-ok t c = rw c.in-Nil.is refl

pub all_moved-returns-in_ok-first-in-Cons-clause-ok : goal.all_moved-returns-in_ok-first-in-Cons-clause-ok
unfolding hhf_all
all_moved-returns-in_ok-first-in-Cons-clause-ok t c =
    rw (c.in-Cons.is, cons_is, ← c.get.ensures, ← c.get-in-Cons.ensures, ← c.in_ok-first-in-Cons.ensures.ok, ← c.in_ok-more-in-Cons.ensures.ok) c.cons.ensures.ok
