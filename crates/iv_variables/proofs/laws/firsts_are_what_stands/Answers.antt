use Rattle.iv_variables.proofs.Standing.{firsts-stand, firsts-two}
use Rattle.iv_variables.proofs.laws.firsts_are_what_stands.Goals as goal

pub returns : goal.returns
returns c = record {
  stands = firsts-stand;
  two = firsts-two;
}
