use Rattle.iv_hsub.proofs.Terms.Moves.{quantified_test}
use Rattle.iv_hsub.proofs.harrop.is_quantified.Goals as goal

pub returns-clause-quantified : goal.returns-clause-quantified
returns-clause-quantified c = quantified_test _ _ c.is_all_at_one.ensures
