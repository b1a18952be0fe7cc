use Rattle.iv_subst.proofs.Laws.Stays.{puts_agree, type_stays, variables_stay, variables_come}
use Rattle.iv_subst.proofs.statements.types_put_are_those_of_variables.Goals as goal

pub returns-clause-agree : goal.returns-clause-agree
returns-clause-agree c = puts_agree

pub returns-clause-stay : goal.returns-clause-stay
returns-clause-stay c = type_stays

pub returns-clause-each : goal.returns-clause-each
returns-clause-each c = variables_stay

pub returns-clause-from : goal.returns-clause-from
returns-clause-from c = variables_come
