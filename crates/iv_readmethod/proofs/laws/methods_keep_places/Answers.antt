use Rattle.iv_readmethod.proofs.Tails.{tail_IsMethod}
use Rattle.iv_readmethod.proofs.laws.methods_keep_places.Goals as goal

pub returns : goal.returns
returns c = record { one = tail_IsMethod c.below.ensures }
