use Rattle.iv_laws.proofs.Abstracted.{abstract_at}
use Rattle.iv_laws.proofs.abstraction.abstraction_undoes_application.Goals as goal

pub returns : goal.returns
returns c = abstract_at
