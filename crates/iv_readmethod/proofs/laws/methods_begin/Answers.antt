use Rattle.iv_readmethod.proofs.Firsts.{free_IsOptMethod}
use Rattle.iv_readmethod.proofs.laws.methods_begin.Goals as goal

pub returns : goal.returns
returns c = record { opt = free_IsOptMethod c.below.ensures }
