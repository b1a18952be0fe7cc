use Rattle.std.proofs.lemmas.Result.{IfOk-at_ok}
use Rattle.iv_rules.specs.Derivation.{imp_intr_is}
use Rattle.iv_kernel.proofs.derivations.imp_intr.Goals as goal

pub returns-clause-ok : goal.returns-clause-ok
returns-clause-ok c = rw (IfOk-at_ok _ c.in_ok-prop.ensures.first c.copy.ensures.ok, IfOk-at_ok _ c.in_ok-prop.ensures.second c.shared.ensures.ok) (imp_intr_is _ _)
