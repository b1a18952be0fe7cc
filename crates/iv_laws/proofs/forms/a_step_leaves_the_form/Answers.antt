use Rattle.iv_laws.proofs.Invariant.{outwards_hhf, eta_hhf}
use Rattle.iv_laws.proofs.forms.a_step_leaves_the_form.Goals as goal

pub returns-clause-outwards : goal.returns-clause-outwards
returns-clause-outwards c = outwards_hhf

pub returns-clause-under : goal.returns-clause-under
returns-clause-under c = eta_hhf
