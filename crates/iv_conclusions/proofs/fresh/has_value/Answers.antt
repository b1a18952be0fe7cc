use Rattle.std.proofs.Common.{◌∙◌}
use Rattle.iv_conclusions.proofs.Facts.{found-some}
use Rattle.iv_conclusions.proofs.fresh.has_value.Goals as goal

pub returns : goal.returns
returns c = c.is_some.ensures ∙ found-some c.get.result _ c.get.ensures
