use Rattle.std.proofs.Common.{sym, ◌∙◌}
use Rattle.iv_subst.proofs.Laws.Entries.{seek-look}
use Rattle.iv_subst.proofs.ty_subst.TySubst.push.Goals as goal

pub push-requires : goal.push-requires
push-requires c = sym (seek-look c.self.inside.entries c.args.name) ∙ (rw (← c.self.view_is) at c.requires)
