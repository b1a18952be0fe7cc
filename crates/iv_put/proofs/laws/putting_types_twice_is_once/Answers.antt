use Rattle.iv_put.proofs.Facts.Passing.{types-twice, retype-twice}
use Rattle.iv_put.proofs.laws.putting_types_twice_is_once.Goals as goal

pub returns-clause-types : goal.returns-clause-types
returns-clause-types c = types-twice

pub returns-clause-terms : goal.returns-clause-terms
returns-clause-terms c = retype-twice
