use Rattle.iv_subst.proofs.Laws.Occurs.{free-none}
use Rattle.iv_subst.proofs.occurs.occurs.Goals as goal

pub stands-requires-clause-free : goal.stands-requires-clause-free
stands-requires-clause-free c = rw c.new-free.ensures (free-none c.args.es.now c.args.name.now)
