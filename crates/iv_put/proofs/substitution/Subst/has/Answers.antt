use Rattle.std.proofs.Common.{◌∙◌}
use Rattle.iv_put.proofs.Facts.Values.{has-found}
use Rattle.iv_put.proofs.substitution.Subst.has.Goals as goal

pub returns : goal.returns
returns c = c.is_some.ensures ∙ has-found c.get.result _ _ c.get.ensures
