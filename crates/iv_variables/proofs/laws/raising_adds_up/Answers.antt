use Rattle.iv_variables.proofs.Places.{term-zero, term-twice}
use Rattle.iv_variables.proofs.laws.raising_adds_up.Goals as goal

pub returns : goal.returns
returns c = record {
  none = term-zero;
  twice = term-twice;
}
