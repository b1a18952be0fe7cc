use Rattle.iv_seq.proofs.Readings.{pull_says}
use Rattle.iv_seq.proofs.laws.pull_gives_the_first_leaf.Goals as goal

pub returns : goal.returns
returns g c = pull_says
