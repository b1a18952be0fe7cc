use Rattle.iv_variables.proofs.Kept.{kind-stands}
use Rattle.iv_variables.proofs.laws.kinds_stand.Goals as goal

pub returns : goal.returns
returns c = record {
  stands = kind-stands;
}
