use Rattle.iv_unify.proofs.Enough.{turns_enough}
use Rattle.iv_unify.proofs.laws.turns_are_enough.Goals as goal

pub returns : goal.returns
returns c = turns_enough
