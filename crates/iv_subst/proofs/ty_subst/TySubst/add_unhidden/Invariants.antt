use Rattle.std.proofs.Common.{◌≡◌, ◌++◌, drop}
use Rattle.iv_subst.specs.TySubst.{unhidden}
use Rattle.iv_subst.proofs.ty_subst.TySubst.add_unhidden.Given as goal

abbrev pub invariant-loop-i : goal.invariant-loop-i
invariant-loop-i l = l.both ++ unhidden l.first (drop l.i l.self) ≡ l.fn.both ++ unhidden l.first l.self
