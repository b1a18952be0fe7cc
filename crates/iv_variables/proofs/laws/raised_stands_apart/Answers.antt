use Rattle.iv_variables.proofs.Standing.{apart}
use Rattle.iv_variables.proofs.laws.raised_stands_apart.Goals as goal

pub returns : goal.returns
returns c = record { apart = apart }
