use Rattle.iv_variables.proofs.Kept.{term-free, terms-free}
use Rattle.iv_variables.proofs.laws.frees_stand.Goals as goal

pub returns : goal.returns
returns c = record {
  terms = term-free;
  lists = terms-free;
}
