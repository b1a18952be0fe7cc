use Rattle.iv_rules.proofs.Parts.{imp_is_prop, eq_is_prop, all_is_prop}
use Rattle.iv_rules.proofs.laws.parts_of_propositions.Goals as goal

pub returns-clause-imp : goal.returns-clause-imp
returns-clause-imp c = imp_is_prop

pub returns-clause-eq : goal.returns-clause-eq
returns-clause-eq c = eq_is_prop

pub returns-clause-all : goal.returns-clause-all
returns-clause-all c = all_is_prop
