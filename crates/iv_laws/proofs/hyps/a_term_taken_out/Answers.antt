use Rattle.iv_laws.proofs.Members.{in_without, without_less, without_discharged}
use Rattle.iv_laws.proofs.hyps.a_term_taken_out.Goals as goal

pub returns-clause-has : goal.returns-clause-has
returns-clause-has c = in_without

pub returns-clause-less : goal.returns-clause-less
returns-clause-less c = without_less

pub returns-clause-discharged : goal.returns-clause-discharged
returns-clause-discharged c = without_discharged
