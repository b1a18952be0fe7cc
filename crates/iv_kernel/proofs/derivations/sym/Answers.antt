use Rattle.iv_rules.specs.Derivation.{eq_sym_is}
use Rattle.iv_kernel.proofs.derivations.sym.Goals as goal

pub returns-clause-ok : goal.returns-clause-ok
returns-clause-ok c = rw (c.in_ok-share.ensures) (eq_sym_is _)
