use Rattle.iv_laws.proofs.Abstracted.{raise_passes, retype_passes}
use Rattle.iv_laws.proofs.Bound.{inst_abstract, bind-happ}
use Rattle.iv_laws.proofs.abstraction.abstraction_is_passed.Goals as goal

pub returns-clause-raise : goal.returns-clause-raise
returns-clause-raise c = raise_passes

pub returns-clause-types : goal.returns-clause-types
returns-clause-types c = retype_passes

pub returns-clause-values : goal.returns-clause-values
returns-clause-values c = inst_abstract

pub returns-clause-happ : goal.returns-clause-happ
returns-clause-happ c x a = bind-happ x a
