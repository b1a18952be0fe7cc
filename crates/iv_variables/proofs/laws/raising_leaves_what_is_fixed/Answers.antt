use Rattle.iv_variables.proofs.Places.{term-none, typ-none}
use Rattle.iv_variables.proofs.laws.raising_leaves_what_is_fixed.Goals as goal

pub returns : goal.returns
returns c = record {
  terms = term-none;
  types = typ-none;
}
