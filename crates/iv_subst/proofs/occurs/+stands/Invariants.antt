use Rattle.std.proofs.Common.{suc}
use Rattle.iv_subst.proofs.Laws.Occurs.{to_walk, to_walk_all}
use Rattle.iv_subst.proofs.occurs.+stands.Given as goal

abbrev pub decreases-stands : goal.decreases-stands
decreases-stands l = to_walk l.es.now l.typ.now

abbrev pub decreases-stands_in_value : goal.decreases-stands_in_value
decreases-stands_in_value l = suc (to_walk l.es.now l.value.now)

abbrev pub decreases-stands_in_any : goal.decreases-stands_in_any
decreases-stands_in_any l = to_walk_all l.es.now l.typs.now
