use Rattle.iv_instance.proofs.Agreeing.{instance_typed, instance_apart}
use Rattle.iv_instance.proofs.laws.instances_can_be_put.Goals as goal

pub returns-clause-typed : goal.returns-clause-typed
returns-clause-typed c = instance_typed

pub returns-clause-apart : goal.returns-clause-apart
returns-clause-apart c = instance_apart
