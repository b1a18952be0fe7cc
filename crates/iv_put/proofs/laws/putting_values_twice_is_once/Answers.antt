use Rattle.iv_put.proofs.Facts.Passing.{inst_twice}
use Rattle.iv_put.proofs.laws.putting_values_twice_is_once.Goals as goal

pub returns : goal.returns
returns c = inst_twice
