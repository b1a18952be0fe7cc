use Rattle.iv_laws.proofs.Abstracted.{abstract_without, abstract_constant}
use Rattle.iv_laws.proofs.abstraction.what_is_abstracted_over_is_gone.Goals as goal

pub returns-clause-gone : goal.returns-clause-gone
returns-clause-gone c = abstract_without

pub returns-clause-constant : goal.returns-clause-constant
returns-clause-constant c = abstract_constant
