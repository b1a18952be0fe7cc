use Rattle.std.proofs.Common.{◌≡◌, ◌++◌, [], drop}
use Rattle.iv_subst.specs.TySubst.{under, at}
use Rattle.iv_subst.specs.Solved.{solved}
use Rattle.iv_subst.proofs.puts.spread.Given as goal

abbrev pub invariant-loop-i : goal.invariant-loop-i
invariant-loop-i l = l.all ++ under (at (solved l.es)) (drop l.i l.es) ≡ [] ++ under (at (solved l.es)) l.es
