use Rattle.iv_outer.proofs.ReadingSteps.{one_reading}
use Rattle.iv_outer.proofs.laws.there_is_one_reading.Goals as goal

pub returns : goal.returns
returns c = one_reading c.forms_are_read.ensures
