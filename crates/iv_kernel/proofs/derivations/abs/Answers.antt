use Rattle.std.proofs.lemmas.Result.{IfOk-at_ok}
use Rattle.iv_rules.specs.Derivation.{abs_is}
use Rattle.iv_kernel.proofs.derivations.abs.Goals as goal

pub returns-clause-ok : goal.returns-clause-ok
returns-clause-ok c = rw (IfOk-at_ok _ (IfOk-at_ok _ c.in_ok-name.ensures.first c.both-variable.ensures.first) c.copy.ensures.ok, IfOk-at_ok _ (IfOk-at_ok _ c.in_ok-name.ensures.first c.both-variable.ensures.second) c.copy-2.ensures.ok, IfOk-at_ok _ c.in_ok-name.ensures.second c.shared.ensures.ok) (abs_is _ _ _)
