use Rattle.iv_unify.proofs.Stated.{leaves_unify, unify_types}
use Rattle.iv_unify.proofs.laws.leaves_are_unifiers.Goals as goal

pub returns-clause-terms : goal.returns-clause-terms
returns-clause-terms c = leaves_unify

pub returns-clause-types : goal.returns-clause-types
returns-clause-types c = unify_types
