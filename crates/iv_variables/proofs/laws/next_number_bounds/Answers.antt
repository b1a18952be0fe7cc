use Rattle.iv_variables.proofs.Kept.{reached}
use Rattle.iv_variables.proofs.Standing.{bounds}
use Rattle.iv_variables.proofs.Most.{next-append}
use Rattle.iv_variables.proofs.laws.next_number_bounds.Goals as goal

pub returns : goal.returns
returns c = record {
  bounds = bounds;
  reached = reached;
  two = next-append;
}
