use Rattle.std.proofs.Common.{refl, add-one}
use Rattle.iv_term.specs.Term.{abs_is, cons_is}
use Rattle.iv_hsub.specs.Index.{raise, raise_all}
use Rattle.iv_hsub.proofs.raising.+raise.Goals as goal

pub raise-returns-in_ok-body-in-Abs-clause-ok : goal.raise-returns-in_ok-body-in-Abs-clause-ok
unfolding raise
raise-returns-in_ok-body-in-Abs-clause-ok t c =
    rw (c.in-Abs.is, abs_is, ← c.get.ensures, ← add-one, ← c.in_ok-inner-in-Abs.ensures.ok, ← c.in_ok-body-in-Abs.ensures.ok) c.abs.ensures.ok

pub raise-returns-in_ok-raise_head-in-Spine-clause-ok : goal.raise-returns-in_ok-raise_head-in-Spine-clause-ok
unfolding raise
raise-returns-in_ok-raise_head-in-Spine-clause-ok t c =
    rw (c.in-Spine.is, ← c.in_ok-args-in-Spine.ensures.ok, ← c.in_ok-raise_head-in-Spine.ensures.ok) refl

pub raise_all-returns-in-Nil-clause-ok : goal.raise_all-returns-in-Nil-clause-ok
unfolding raise_all
raise_all-returns-in-Nil-clause-ok t c = rw c.in-Nil.is refl

pub raise_all-returns-in_ok-first-in-Cons-clause-ok : goal.raise_all-returns-in_ok-first-in-Cons-clause-ok
unfolding raise_all
raise_all-returns-in_ok-first-in-Cons-clause-ok t c =
    rw (c.in-Cons.is, cons_is, ← c.get.ensures, ← c.get-in-Cons.ensures, ← c.in_ok-first-in-Cons.ensures.ok, ← c.in_ok-more-in-Cons.ensures.ok) c.cons.ensures.ok
