use Rattle.iv_unify.proofs.Scopes.{leading_composes, leading_both, nothing_leads}
use Rattle.iv_unify.proofs.laws.leading_substitutions_compose.Goals as goal

pub returns-clause-composed : goal.returns-clause-composed
returns-clause-composed c = leading_composes

pub returns-clause-both : goal.returns-clause-both
returns-clause-both c = leading_both

pub returns-clause-nothing : goal.returns-clause-nothing
returns-clause-nothing c = nothing_leads
