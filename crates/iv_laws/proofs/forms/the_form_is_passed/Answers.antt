use Rattle.iv_laws.proofs.Forming.{hhf_raise}
use Rattle.iv_laws.proofs.Retyped.{retype_hhf}
use Rattle.iv_laws.proofs.forms.the_form_is_passed.Goals as goal

pub returns-clause-raise : goal.returns-clause-raise
returns-clause-raise c = hhf_raise

pub returns-clause-types : goal.returns-clause-types
returns-clause-types c = retype_hhf
