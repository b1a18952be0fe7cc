use Rattle.std.proofs.lemmas.Result.{IfOk-at_ok}
use Rattle.iv_rules.specs.Derivation.{all_elim_is}
use Rattle.iv_kernel.proofs.derivations.all_elim.Goals as goal

pub returns-clause-ok : goal.returns-clause-ok
returns-clause-ok c = rw (IfOk-at_ok _ c.in_ok-value.ensures.first c.copy.ensures.ok, IfOk-at_ok _ c.in_ok-value.ensures.second c.shared.ensures.ok) (all_elim_is _ _)
