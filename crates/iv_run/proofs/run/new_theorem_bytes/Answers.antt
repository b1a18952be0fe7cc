use Rattle.iv_run.proofs.RunSteps.{drop-seen}
use Rattle.iv_run.proofs.run.new_theorem_bytes.Goals as goal

pub returns-clause-ok : goal.returns-clause-ok
returns-clause-ok c = rw (c.rest_from.ensures, c.as_slice.ensures, drop-seen) at c.theorem_bytes.ensures.ok
