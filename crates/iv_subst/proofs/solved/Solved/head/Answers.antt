use Rattle.iv_subst.proofs.Laws.Solved.{link-none}
use Rattle.iv_subst.proofs.solved.Solved.head.Goals as goal

pub returns-clause-head : goal.returns-clause-head
returns-clause-head c = λ y e. rw (← c.self.view_is) (link-none c.self.inside.entries c.self.invariant y (c.head.ensures.head y e))
