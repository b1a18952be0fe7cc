use Rattle.iv_laws.proofs.Members.{among_itself, among_those}
use Rattle.iv_laws.proofs.hyps.among_is_an_order.Goals as goal

pub returns-clause-itself : goal.returns-clause-itself
returns-clause-itself c = among_itself

pub returns-clause-those : goal.returns-clause-those
returns-clause-those c = among_those
