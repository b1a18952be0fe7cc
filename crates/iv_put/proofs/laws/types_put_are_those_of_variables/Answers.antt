use Rattle.iv_put.proofs.Facts.Passing.{functions-put, types-agree, retypes-agree, types_stay, retype_stays}
use Rattle.iv_put.proofs.laws.types_put_are_those_of_variables.Goals as goal

pub returns-clause-types : goal.returns-clause-types
returns-clause-types c = types-agree

pub returns-clause-terms : goal.returns-clause-terms
returns-clause-terms c = retypes-agree

pub returns-clause-types_stay : goal.returns-clause-types_stay
returns-clause-types_stay c = types_stay

pub returns-clause-terms_stay : goal.returns-clause-terms_stay
returns-clause-terms_stay c = retype_stays

pub returns-clause-functions : goal.returns-clause-functions
returns-clause-functions c = functions-put
