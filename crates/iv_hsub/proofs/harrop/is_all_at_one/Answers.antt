use Rattle.std.proofs.Common.{refl}
use Rattle.iv_term.specs.Term.{abs_is, cons_is}
use Rattle.iv_hsub.proofs.harrop.is_all_at_one.Goals as goal

pub returns-in-Abs : goal.returns-in-Abs
returns-in-Abs c = rw (c.in-Abs.is, abs_is) refl

pub returns-in-Cons : goal.returns-in-Cons
returns-in-Cons c = rw (c.in-Spine.is, c.in-Cons.is, cons_is, ← c.get.ensures) c.is_all_alone.ensures
