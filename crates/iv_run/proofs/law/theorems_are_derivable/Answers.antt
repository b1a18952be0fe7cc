use Rattle.iv_run.proofs.Derivable.{theorems-derivable}
use Rattle.iv_run.proofs.law.theorems_are_derivable.Goals as goal

pub returns : goal.returns
returns c = theorems-derivable c.solved_statements_are_derivable.ensures
