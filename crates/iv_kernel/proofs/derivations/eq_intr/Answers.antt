use Rattle.std.proofs.lemmas.Result.{IfOk-at_ok}
use Rattle.iv_rules.specs.Derivation.{eq_intr_is}
use Rattle.iv_kernel.proofs.derivations.eq_intr.Goals as goal

pub returns-clause-ok : goal.returns-clause-ok
returns-clause-ok c = rw (IfOk-at_ok _ c.in_ok-d.ensures.first c.shared.ensures.ok, IfOk-at_ok _ c.in_ok-d.ensures.second c.shared-2.ensures.ok) (eq_intr_is _ _)
