use Rattle.std.proofs.Common.{drop}
use Rattle.iv_put.specs.Subst.{CanApply, Values}
use Rattle.iv_put.proofs.substitution.Subst.can_compose.Given as goal

abbrev pub invariant-loop-i : goal.invariant-loop-i
invariant-loop-i l =
    (Values (CanApply l.next) l.self.1 → Values (CanApply l.next) (drop l.i l.self.1))
    × (Values (CanApply l.next) (drop l.i l.self.1) → Values (CanApply l.next) l.self.1)
