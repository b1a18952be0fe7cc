use Rattle.std.proofs.Common.{refl}
use Rattle.iv_term.specs.Term.{abs_is}
use Rattle.iv_hsub.specs.Index.{contracts}
use Rattle.iv_hsub.proofs.contraction.contracts.Goals as goal

pub returns-in-Abs : goal.returns-in-Abs
unfolding contracts
returns-in-Abs c = rw (c.in-Abs.is, abs_is) refl

pub returns-then-not-ends_in_0 : goal.returns-then-not-ends_in_0
unfolding contracts
returns-then-not-ends_in_0 c = rw (c.in-Spine.is, ← c.ends_in_0.ensures, c.if-not-ends_in_0.true) refl

pub returns-then-is_bound : goal.returns-then-is_bound
unfolding contracts
returns-then-is_bound c = rw (c.in-Spine.is, ← c.ends_in_0.ensures, ← c.is_bound.ensures 0 refl, c.if-not-ends_in_0.false, c.if-is_bound.true) refl

pub returns-else-is_bound : goal.returns-else-is_bound
unfolding contracts
returns-else-is_bound c = rw (c.in-Spine.is, ← c.ends_in_0.ensures, ← c.is_bound.ensures 0 refl, c.if-not-ends_in_0.false, c.if-is_bound.false, ← c.occurs_in_front.ensures) refl
