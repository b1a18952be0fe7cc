use Rattle.iv_subst.proofs.Laws.Stays.{solved_idempotent, solved_absorbed}
use Rattle.iv_subst.proofs.statements.unification_goes_on.Goals as goal

pub returns-clause-idempotent : goal.returns-clause-idempotent
returns-clause-idempotent c = solved_idempotent

pub returns-clause-absorbed : goal.returns-clause-absorbed
returns-clause-absorbed c = solved_absorbed
