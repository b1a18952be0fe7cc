use Rattle.std.proofs.Common.{refl}
use Rattle.iv_term.specs.Term.{abs_is, cons_is}
use Rattle.iv_hsub.specs.Index.{occurs, occurs_in}
use Rattle.iv_hsub.proofs.contraction.+occurs.Goals as goal

pub occurs-returns-in-Abs : goal.occurs-returns-in-Abs
unfolding occurs
occurs-returns-in-Abs t c = λ d h. rw (c.in-Abs.is, abs_is, ← c.get.ensures) (c.occurs.ensures _ (c.under.ensures.next d h))

pub occurs-returns-then-is_bound : goal.occurs-returns-then-is_bound
unfolding occurs
occurs-returns-then-is_bound t c = λ d h. rw (c.in-Spine.is, ← c.is_bound.ensures d h, c.if-is_bound.true) refl

pub occurs-returns-else-is_bound : goal.occurs-returns-else-is_bound
unfolding occurs
occurs-returns-else-is_bound t c = λ d h. rw (c.in-Spine.is, ← c.is_bound.ensures d h, c.if-is_bound.false) (c.occurs_in.ensures d h)

pub occurs_in-returns-in-Nil : goal.occurs_in-returns-in-Nil
unfolding occurs_in
occurs_in-returns-in-Nil t c = λ d h. rw c.in-Nil.is refl

pub occurs_in-returns-then-occurs : goal.occurs_in-returns-then-occurs
unfolding occurs_in
occurs_in-returns-then-occurs t c = λ d h. rw (c.in-Cons.is, cons_is, ← c.get.ensures, ← c.occurs.ensures d h, c.if-occurs.true) refl

pub occurs_in-returns-else-occurs : goal.occurs_in-returns-else-occurs
unfolding occurs_in
occurs_in-returns-else-occurs t c = λ d h. rw (c.in-Cons.is, cons_is, ← c.get.ensures, ← c.occurs.ensures d h, c.if-occurs.false, ← c.get-else-occurs.ensures) (c.occurs_in.ensures d h)
