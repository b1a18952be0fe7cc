use Rattle.std.proofs.Common.{sym, ◌∙◌}
use Rattle.iv_put.proofs.Facts.Values.{empty-stays}
use Rattle.iv_put.proofs.retyping.changed_typ.Goals as goal

pub returns-then-len-eq0-clause-ok : goal.returns-then-len-eq0-clause-ok
returns-then-len-eq0-clause-ok c = empty-stays _ _ (sym c.len.ensures.same ∙ c.if-len-eq0.true)
