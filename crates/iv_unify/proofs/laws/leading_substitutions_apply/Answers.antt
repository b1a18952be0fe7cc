use Rattle.iv_unify.proofs.Scopes.{leading_applies, leading_over, leading_types}
use Rattle.iv_unify.proofs.laws.leading_substitutions_apply.Goals as goal

pub returns-clause-can : goal.returns-clause-can
returns-clause-can c = leading_applies

pub returns-clause-over : goal.returns-clause-over
returns-clause-over c = leading_over

pub returns-clause-types : goal.returns-clause-types
returns-clause-types c = leading_types
