use Rattle.iv_facts.specs.FactLevels.{limit}
use Rattle.iv_readmethod.specs.Methods.{a_method}
use Rattle.iv_readmethod.proofs.Joins.{settled_is}
use Rattle.iv_readmethod.proofs.methods.a_method.Goals as goal

pub returns-in-Ok-clause-err : goal.returns-in-Ok-clause-err
unfolding a_method limit
returns-in-Ok-clause-err c = rw (settled_is c.args.tokens.now c.in-Ok.ensures.ok) c.whole.ensures.err
