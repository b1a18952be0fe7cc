use Rattle.std.proofs.Common.{◌≡◌}
use Rattle.iv_subst.specs.TySubst.{put_typ, at}
use Rattle.iv_subst.specs.Solved.{solved}
use Rattle.iv_subst.proofs.Laws.Heads.{typ_rank}
use Rattle.iv_subst.proofs.heads.head.Given as goal

abbrev pub invariant-loop-next : goal.invariant-loop-next
invariant-loop-next l = put_typ (at (solved l.es)) l.current ≡ put_typ (at (solved l.es)) l.typ

abbrev pub decreases-loop-next : goal.decreases-loop-next
decreases-loop-next l = typ_rank l.es l.current
