use Rattle.iv_laws.proofs.Spined.{occurs-raised, new_nowhere, occurs-eta, beyond-nowhere, nowhere-beyond}
use Rattle.iv_laws.proofs.spines.occurrence_of_indices.Goals as goal

pub returns-clause-raised : goal.returns-clause-raised
returns-clause-raised c = occurs-raised

pub returns-clause-new : goal.returns-clause-new
returns-clause-new c = new_nowhere

pub returns-clause-eta : goal.returns-clause-eta
returns-clause-eta c = occurs-eta

pub returns-clause-beyond : goal.returns-clause-beyond
returns-clause-beyond c = beyond-nowhere

pub returns-clause-nowhere : goal.returns-clause-nowhere
returns-clause-nowhere c = nowhere-beyond
