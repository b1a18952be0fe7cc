use Rattle.iv_seq.proofs.Readings.{rest_costs}
use Rattle.iv_seq.proofs.laws.rest_costs_the_difference.Goals as goal

pub returns : goal.returns
returns g c = rest_costs
