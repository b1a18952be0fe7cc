use Rattle.std.proofs.Common.{◌≡◌, ◌++◌, drop}
use Rattle.iv_subst.specs.TySubst.{under, at}
use Rattle.iv_subst.proofs.ty_subst.TySubst.add_under.Given as goal

abbrev pub invariant-loop-i : goal.invariant-loop-i
invariant-loop-i l = l.both ++ under (at l.next) (drop l.i l.self) ≡ l.fn.both ++ under (at l.next) l.self
