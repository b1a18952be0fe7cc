use Rattle.std.proofs.Common.{refl}
use Rattle.iv_term.specs.Term.{abs_is, cons_is}
use Rattle.iv_sig.specs.Conditions.{has_free, any_has_free}
use Rattle.iv_sig.proofs.conditions.+has_free.Goals as goal

pub has_free-returns-in-Abs : goal.has_free-returns-in-Abs
unfolding has_free
has_free-returns-in-Abs t c = rw (c.in-Abs.is, abs_is, ← c.get.ensures) c.has_free.ensures

pub has_free-returns-then-is_free : goal.has_free-returns-then-is_free
unfolding has_free
has_free-returns-then-is_free t c = rw (c.in-Spine.is, ← c.is_free.ensures, c.if-is_free.true) refl

pub has_free-returns-else-is_free : goal.has_free-returns-else-is_free
unfolding has_free
has_free-returns-else-is_free t c = rw (c.in-Spine.is, ← c.is_free.ensures, c.if-is_free.false) c.any_has_free.ensures

pub any_has_free-returns-in-Nil : goal.any_has_free-returns-in-Nil
unfolding any_has_free
any_has_free-returns-in-Nil t c = rw c.in-Nil.is refl

pub any_has_free-returns-then-has_free : goal.any_has_free-returns-then-has_free
unfolding any_has_free
any_has_free-returns-then-has_free t c = rw (c.in-Cons.is, cons_is, ← c.get.ensures, ← c.has_free.ensures, c.if-has_free.true) refl

pub any_has_free-returns-else-has_free : goal.any_has_free-returns-else-has_free
unfolding any_has_free
any_has_free-returns-else-has_free t c =
    rw (c.in-Cons.is, cons_is, ← c.get.ensures, ← c.has_free.ensures, c.if-has_free.false, ← c.get-else-has_free.ensures) c.any_has_free.ensures
