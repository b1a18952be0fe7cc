use Rattle.std.proofs.Common.{suc, ◌+◌}
use Rattle.iv_subst.specs.TySubst.{put_typ, put_typs, at}
use Rattle.iv_subst.specs.Solved.{solved}
use Rattle.iv_subst.specs.Pairs.{size, size_all}
use Rattle.iv_subst.proofs.Laws.Heads.{followed}
use Rattle.iv_subst.proofs.puts.+replaced.Given as goal

abbrev pub decreases-replaced : goal.decreases-replaced
decreases-replaced l =
    size (put_typ (at (solved l.es.now)) l.typ.now) + size (put_typ (at (solved l.es.now)) l.typ.now) + followed l.es.now l.typ.now

abbrev pub decreases-replaced_all : goal.decreases-replaced_all
decreases-replaced_all l = suc (size_all (put_typs (at (solved l.es.now)) l.typs.now) + size_all (put_typs (at (solved l.es.now)) l.typs.now))
