use Rattle.std.proofs.Common.{refl}
use Rattle.iv_term.specs.Term.{cons_is}
use Rattle.iv_hsub.specs.Index.{front, occurs_in}
use Rattle.iv_hsub.proofs.contraction.+occurs_in_front.Goals as goal

pub returns-in-Nil : goal.returns-in-Nil
unfolding front occurs_in
returns-in-Nil t c = rw c.in-Nil.is refl

pub returns-then-is_nil : goal.returns-then-is_nil
unfolding front occurs_in
returns-then-is_nil t c = rw (c.in-Cons.is, cons_is, ← c.get.ensures, ← c.is_nil.ensures.same, c.if-is_nil.true) refl

pub returns-then-occurs : goal.returns-then-occurs
unfolding front occurs_in
returns-then-occurs t c =
    rw (c.in-Cons.is, cons_is, ← c.get.ensures, ← c.is_nil.ensures.same, c.if-is_nil.false, ← c.get-in-Cons.ensures, ← c.occurs.ensures 0 refl, c.if-occurs.true) refl

pub returns-else-occurs : goal.returns-else-occurs
unfolding front occurs_in
returns-else-occurs t c =
    rw (c.in-Cons.is, cons_is, ← c.get.ensures, ← c.is_nil.ensures.same, c.if-is_nil.false, ← c.get-in-Cons.ensures, ← c.occurs.ensures 0 refl, c.if-occurs.false)
    (rw (c.get-in-Cons-2.ensures, ← c.get.ensures) at c.occurs_in_front.ensures)
