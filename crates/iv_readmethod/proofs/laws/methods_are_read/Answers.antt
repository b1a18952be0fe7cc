use Rattle.iv_readmethod.proofs.WholeRead.{a_method_read, opt_method_read}
use Rattle.iv_readmethod.proofs.laws.methods_are_read.Goals as goal

pub returns : goal.returns
returns c = record {
  one = a_method_read c.below.ensures;
  opt = opt_method_read c.below.ensures;
}
