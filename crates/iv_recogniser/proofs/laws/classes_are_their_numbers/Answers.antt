use Rattle.iv_recogniser.proofs.Same.{same_is}
use Rattle.iv_recogniser.proofs.laws.classes_are_their_numbers.Goals as goal

pub returns : goal.returns
returns c = same_is
