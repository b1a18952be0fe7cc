use Rattle.iv_hsub.specs.Index.{eta}
use Rattle.iv_hsub.proofs.contraction.eta.Goals as goal

pub returns-then-contracts-clause-ok : goal.returns-then-contracts-clause-ok
unfolding eta
returns-then-contracts-clause-ok c = rw (← c.contracts.ensures, c.if-contracts.true) c.contracted-made.ensures.ok

pub returns-else-contracts-clause-ok : goal.returns-else-contracts-clause-ok
unfolding eta
returns-else-contracts-clause-ok c = rw (← c.contracts.ensures, c.if-contracts.false) c.abs.ensures.ok
