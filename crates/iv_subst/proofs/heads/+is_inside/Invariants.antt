use Rattle.iv_subst.specs.TySubst.{put_typ, put_typs, at}
use Rattle.iv_subst.specs.Solved.{solved}
use Rattle.iv_subst.specs.Pairs.{size, size_all}
use Rattle.iv_subst.proofs.heads.+is_inside.Given as goal

abbrev pub decreases-is_inside : goal.decreases-is_inside
decreases-is_inside l = size (put_typ (at (solved l.es.now)) l.typ.now)

abbrev pub decreases-is_inside_any : goal.decreases-is_inside_any
decreases-is_inside_any l = size_all (put_typs (at (solved l.es.now)) l.typs.now)
