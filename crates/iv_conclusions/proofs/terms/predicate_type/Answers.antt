use Rattle.iv_conclusions.proofs.Deciding.{quantified-const}
use Rattle.iv_conclusions.proofs.terms.predicate_type.Goals as goal

pub const_dom-requires : goal.const_dom-requires
const_dom-requires c = quantified-const _ _ (rw c.in-Spine.is at c.requires)
