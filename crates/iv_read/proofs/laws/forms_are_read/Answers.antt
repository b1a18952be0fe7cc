use Rattle.iv_read.proofs.FormsRead.{form_read}
use Rattle.iv_read.proofs.laws.forms_are_read.Goals as goal

pub returns : goal.returns
returns c f ts d = form_read c.below.ensures c.classes_are_their_numbers.ensures d
