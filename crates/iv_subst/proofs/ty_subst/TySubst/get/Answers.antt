use Rattle.std.proofs.Common.{sym, ◌∙◌}
use Rattle.iv_subst.proofs.Laws.Entries.{seek-look}
use Rattle.iv_subst.proofs.ty_subst.TySubst.get.Goals as goal

pub returns : goal.returns
returns c = rw (← c.self.view_is) (c.get.ensures ∙ sym (seek-look c.self.inside.entries c.args.name.now))
