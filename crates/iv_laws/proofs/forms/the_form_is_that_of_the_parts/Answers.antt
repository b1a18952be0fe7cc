use Rattle.iv_laws.proofs.Forming.{hhf_parts}
use Rattle.iv_laws.proofs.forms.the_form_is_that_of_the_parts.Goals as goal

pub returns : goal.returns
returns c = hhf_parts
