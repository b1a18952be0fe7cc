use Rattle.std.proofs.Common.{◌∙◌}
use Rattle.iv_subst.proofs.Laws.Entries.{has-found}
use Rattle.iv_subst.proofs.ty_subst.TySubst.has.Goals as goal

pub returns : goal.returns
returns c = c.is_some.ensures ∙ has-found c.get.result _ _ c.get.ensures
