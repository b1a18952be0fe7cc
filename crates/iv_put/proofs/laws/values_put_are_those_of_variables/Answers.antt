use Rattle.iv_put.proofs.Facts.Passing.{insts_agree, inst_stays}
use Rattle.iv_put.proofs.laws.values_put_are_those_of_variables.Goals as goal

pub returns-clause-agree : goal.returns-clause-agree
returns-clause-agree c = insts_agree

pub returns-clause-stay : goal.returns-clause-stay
returns-clause-stay c = inst_stays
