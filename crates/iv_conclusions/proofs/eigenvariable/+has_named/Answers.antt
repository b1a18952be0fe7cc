use Rattle.iv_term.specs.Term.{abs_is, cons_is}
use Rattle.iv_rules.specs.Eigenvariable.{has_named, any_has_named}
use Rattle.iv_conclusions.proofs.eigenvariable.+has_named.Goals as goal

pub has_named-returns-in-Abs : goal.has_named-returns-in-Abs
unfolding has_named
has_named-returns-in-Abs t c = rw (c.in-Abs.is, abs_is, ← c.get.ensures) c.has_named.ensures

pub has_named-returns-then-is_named : goal.has_named-returns-then-is_named
unfolding has_named
has_named-returns-then-is_named t c = rw (c.in-Spine.is, ← c.is_named.ensures, c.if-is_named.true)

pub has_named-returns-else-is_named : goal.has_named-returns-else-is_named
unfolding has_named
has_named-returns-else-is_named t c = rw (c.in-Spine.is, ← c.is_named.ensures, c.if-is_named.false) c.any_has_named.ensures

pub any_has_named-returns-in-Nil : goal.any_has_named-returns-in-Nil
unfolding any_has_named
any_has_named-returns-in-Nil t c = rw c.in-Nil.is

pub any_has_named-returns-then-has_named : goal.any_has_named-returns-then-has_named
unfolding any_has_named
any_has_named-returns-then-has_named t c = rw (c.in-Cons.is, cons_is, ← c.get.ensures, ← c.has_named.ensures, c.if-has_named.true)

pub any_has_named-returns-else-has_named : goal.any_has_named-returns-else-has_named
unfolding any_has_named
any_has_named-returns-else-has_named t c =
    rw (c.in-Cons.is, cons_is, ← c.get.ensures, ← c.has_named.ensures, c.if-has_named.false, ← c.get-else-has_named.ensures) c.any_has_named.ensures
