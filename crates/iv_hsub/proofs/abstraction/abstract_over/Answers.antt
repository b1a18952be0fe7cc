use Rattle.iv_hsub.specs.Abstract.{abstract_over}
use Rattle.iv_hsub.proofs.abstraction.abstract_over.Goals as goal

pub returns-clause-ok : goal.returns-clause-ok
unfolding abstract_over
returns-clause-ok c = rw (← c.in_ok-body.ensures.ok) c.eta.ensures.ok
