use Rattle.iv_instance.proofs.Agreeing.{instance_applied}
use Rattle.iv_instance.proofs.laws.instances_are_applications.Goals as goal

pub returns : goal.returns
returns c = instance_applied c.values_put_are_those_of_variables.ensures.agree
