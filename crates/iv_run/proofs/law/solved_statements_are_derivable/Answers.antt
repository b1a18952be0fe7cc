use Rattle.iv_run.proofs.Solved.{solved-derivable}
use Rattle.iv_run.proofs.law.solved_statements_are_derivable.Goals as goal

pub returns : goal.returns
returns c = solved-derivable c.propositions_are_shown.ensures.assume c.propositions_are_shown.ensures.imp_intr c.instances_are_shown.ensures.inst
