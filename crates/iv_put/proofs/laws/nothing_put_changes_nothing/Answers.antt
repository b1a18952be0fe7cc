use Rattle.iv_put.proofs.Stated.{nothing_stays}
use Rattle.iv_put.proofs.laws.nothing_put_changes_nothing.Goals as goal

pub returns : goal.returns
returns c = nothing_stays
