use Rattle.iv_term.specs.Term.{abs_is, cons_is, has_free, any_has_free}
use Rattle.iv_term.proofs.term.+has_free.Goals as goal

pub Term::has_free-returns-in-Abs : goal.Term::has_free-returns-in-Abs
unfolding has_free
Term::has_free-returns-in-Abs t c = rw (c.in-Abs.is, abs_is, ← c.get.ensures) c.has_free.ensures

pub Term::has_free-returns-then-is_free : goal.Term::has_free-returns-then-is_free
unfolding has_free
Term::has_free-returns-then-is_free t c = rw (c.in-Spine.is, ← c.is_free.ensures, c.if-is_free.true)

pub Term::has_free-returns-else-is_free : goal.Term::has_free-returns-else-is_free
unfolding has_free
Term::has_free-returns-else-is_free t c = rw (c.in-Spine.is, ← c.is_free.ensures, c.if-is_free.false) c.any_has_free.ensures

pub Terms::any_has_free-returns-in-Nil : goal.Terms::any_has_free-returns-in-Nil
unfolding any_has_free
Terms::any_has_free-returns-in-Nil t c = rw c.in-Nil.is

pub Terms::any_has_free-returns-then-has_free : goal.Terms::any_has_free-returns-then-has_free
unfolding any_has_free
Terms::any_has_free-returns-then-has_free t c = rw (c.in-Cons.is, cons_is, ← c.get.ensures, ← c.has_free.ensures, c.if-has_free.true)

pub Terms::any_has_free-returns-else-has_free : goal.Terms::any_has_free-returns-else-has_free
unfolding any_has_free
Terms::any_has_free-returns-else-has_free t c =
    rw (c.in-Cons.is, cons_is, ← c.get.ensures, ← c.has_free.ensures, c.if-has_free.false, ← c.get-else-has_free.ensures) c.any_has_free.ensures
