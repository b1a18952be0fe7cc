use Rattle.iv_put.proofs.Stated.{composed_both, composed_can, next_can, composed_closed}
use Rattle.iv_put.proofs.laws.composition_is_one_after_the_other.Goals as goal

pub returns-clause-both : goal.returns-clause-both
returns-clause-both c = composed_both

pub returns-clause-can : goal.returns-clause-can
returns-clause-can c = composed_can

pub returns-clause-next : goal.returns-clause-next
returns-clause-next c = next_can

pub returns-clause-closed : goal.returns-clause-closed
returns-clause-closed c = composed_closed
