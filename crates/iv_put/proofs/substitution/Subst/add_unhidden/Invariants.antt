use Rattle.std.proofs.Common.{◌≡◌, ◌++◌, drop}
use Rattle.iv_put.specs.Subst.{unhidden}
use Rattle.iv_put.proofs.substitution.Subst.add_unhidden.Given as goal

abbrev pub invariant-loop-i : goal.invariant-loop-i
invariant-loop-i l =
    (l.both.0 ≡ l.fn.both.0) × (l.both.1 ++ unhidden l.first.1 (drop l.i l.self.1) ≡ l.fn.both.1 ++ unhidden l.first.1 l.self.1)
