use Rattle.iv_laws.proofs.Spined.{happ_of_eta, eta_undone, eta_of_expand}
use Rattle.iv_laws.proofs.spines.contraction_changes_no_function.Goals as goal

pub returns-clause-beta : goal.returns-clause-beta
returns-clause-beta c = happ_of_eta

pub returns-clause-undone : goal.returns-clause-undone
returns-clause-undone c = eta_undone

pub returns-clause-expand : goal.returns-clause-expand
returns-clause-expand c = eta_of_expand
