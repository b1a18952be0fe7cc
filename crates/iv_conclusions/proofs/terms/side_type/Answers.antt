use Rattle.iv_conclusions.proofs.Deciding.{equation-const}
use Rattle.iv_conclusions.proofs.terms.side_type.Goals as goal

pub const_dom-requires : goal.const_dom-requires
const_dom-requires c = equation-const _ _ (rw c.in-Spine.is at c.requires)
