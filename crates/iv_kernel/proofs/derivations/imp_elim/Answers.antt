use Rattle.std.proofs.lemmas.Result.{IfOk-at_ok}
use Rattle.iv_rules.specs.Derivation.{imp_elim_is}
use Rattle.iv_kernel.proofs.derivations.imp_elim.Goals as goal

pub returns-clause-ok : goal.returns-clause-ok
returns-clause-ok c = rw (IfOk-at_ok _ c.in_ok-d.ensures.first c.shared.ensures.ok, IfOk-at_ok _ c.in_ok-d.ensures.second c.shared-2.ensures.ok) (imp_elim_is _ _)
