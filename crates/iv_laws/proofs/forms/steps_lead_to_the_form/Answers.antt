use Rattle.iv_laws.proofs.Forming.{hhf_reached}
use Rattle.iv_laws.proofs.forms.steps_lead_to_the_form.Goals as goal

pub returns : goal.returns
returns c = hhf_reached
