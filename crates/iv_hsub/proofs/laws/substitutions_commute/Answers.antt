use Rattle.iv_hsub.proofs.Stated.{puts_commute, hsubs_commute}
use Rattle.iv_hsub.proofs.laws.substitutions_commute.Goals as goal

pub returns : goal.returns
returns c = record {
  anywhere = puts_commute;
  outermost = hsubs_commute;
}
