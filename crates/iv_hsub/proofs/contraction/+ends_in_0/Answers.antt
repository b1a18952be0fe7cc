use Rattle.std.proofs.Common.{refl}
use Rattle.iv_term.specs.Term.{cons_is}
use Rattle.iv_hsub.specs.Index.{ends_in_0}
use Rattle.iv_hsub.proofs.contraction.+ends_in_0.Goals as goal

pub returns-in-Nil : goal.returns-in-Nil
unfolding ends_in_0
returns-in-Nil t c = rw c.in-Nil.is refl

pub returns-then-is_nil : goal.returns-then-is_nil
unfolding ends_in_0
returns-then-is_nil t c =
    rw (c.in-Cons.is, cons_is, ← c.get.ensures, ← c.is_nil.ensures.same, c.if-is_nil.true, ← c.get-then-is_nil.ensures) c.is_index_0.ensures

pub returns-else-is_nil : goal.returns-else-is_nil
unfolding ends_in_0
returns-else-is_nil t c =
    rw (c.in-Cons.is, cons_is, ← c.get.ensures, ← c.is_nil.ensures.same, c.if-is_nil.false) (rw (c.get-else-is_nil.ensures, ← c.get.ensures) at c.ends_in_0.ensures)
