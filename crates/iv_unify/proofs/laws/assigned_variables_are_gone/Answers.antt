use Rattle.iv_unify.proofs.Assign.{assigned_absent}
use Rattle.iv_unify.proofs.laws.assigned_variables_are_gone.Goals as goal

pub returns : goal.returns
returns c = assigned_absent
