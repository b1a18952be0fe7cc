use Rattle.iv_rules.proofs.Hyps.{same-is-equal}
use Rattle.iv_rules.proofs.laws.hypotheses_are_told_apart.Goals as goal

pub returns : goal.returns
returns c = same-is-equal
