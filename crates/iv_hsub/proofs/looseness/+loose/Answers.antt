use Rattle.std.proofs.Common.{refl, sub-one}
use Rattle.iv_term.specs.Term.{abs_is, cons_is}
use Rattle.iv_hsub.specs.Index.{loose, loose_all}
use Rattle.iv_hsub.proofs.looseness.+loose.Goals as goal

pub loose-returns-in-Abs : goal.loose-returns-in-Abs
unfolding loose
loose-returns-in-Abs t c = rw (c.in-Abs.is, abs_is, ← c.get.ensures, ← c.loose.ensures, ← sub-one) c.saturating_sub.ensures

pub loose-returns-in-Spine : goal.loose-returns-in-Spine
unfolding loose
loose-returns-in-Spine t c = rw (c.in-Spine.is, ← c.loose_head.ensures, ← c.loose_all.ensures) c.greater.ensures

pub loose_all-returns-in-Nil : goal.loose_all-returns-in-Nil
unfolding loose_all
loose_all-returns-in-Nil t c = rw c.in-Nil.is refl

pub loose_all-returns-in-Cons : goal.loose_all-returns-in-Cons
unfolding loose_all
loose_all-returns-in-Cons t c = rw (c.in-Cons.is, cons_is, ← c.get.ensures, ← c.loose.ensures, ← c.get-in-Cons.ensures, ← c.loose_all.ensures) c.greater.ensures
