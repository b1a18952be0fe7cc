use Rattle.iv_hsub.proofs.Stated.{abstract_keeps, abstract_undone}
use Rattle.iv_hsub.proofs.laws.abstraction_is_undone.Goals as goal

pub returns : goal.returns
returns c = record {
  typed = abstract_keeps;
  undone = abstract_undone;
}
