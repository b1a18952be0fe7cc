use Rattle.iv_instance.proofs.Agreeing.{fixed_fresh, fixed_stay}
use Rattle.iv_instance.proofs.laws.fixed_hypotheses_stay.Goals as goal

pub returns-clause-fresh : goal.returns-clause-fresh
returns-clause-fresh c = fixed_fresh

pub returns-clause-stay : goal.returns-clause-stay
returns-clause-stay c = fixed_stay c.types_put_are_those_of_variables.ensures.terms_stay c.values_put_are_those_of_variables.ensures.stay c.unions_have_both.ensures.nothing
