use Rattle.std.proofs.Common.{refl}
use Rattle.iv_hsub.specs.Hhf.{expand}
use Rattle.iv_hsub.proofs.harrop.expand.Goals as goal

pub returns-clause-ok : goal.returns-clause-ok
unfolding expand
returns-clause-ok c = rw (← c.in_ok-args.ensures.ok, ← c.in_ok-head.ensures.ok, ← c.in_ok-last.ensures.ok, ← c.in_ok-append.ensures.ok) refl
