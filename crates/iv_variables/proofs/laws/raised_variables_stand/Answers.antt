use Rattle.iv_variables.proofs.Standing.{stands-raised, kinds-raised}
use Rattle.iv_variables.proofs.laws.raised_variables_stand.Goals as goal

pub returns : goal.returns
returns c = record {
  stands = stands-raised;
  kinds = kinds-raised;
}
