use Rattle.iv_variables.proofs.Standing.{some-raised, none-raised}
use Rattle.iv_variables.proofs.laws.next_number_is_raised.Goals as goal

pub returns : goal.returns
returns c = record {
  some = some-raised;
  none = none-raised;
}
