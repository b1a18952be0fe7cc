use Rattle.std.proofs.lemmas.Result.{IfOk-at_ok}
use Rattle.iv_rules.specs.Derivation.{inst_is}
use Rattle.iv_kernel.proofs.derivations.inst.Goals as goal

pub returns-clause-ok : goal.returns-clause-ok
returns-clause-ok c = rw (IfOk-at_ok _ c.in_ok-s.ensures.first c.copy.ensures.ok, IfOk-at_ok _ c.in_ok-s.ensures.second c.shared.ensures.ok) (inst_is _ _)
