-- A class that a set has is among its members.
use Rattle.iv_recogniser.specs.Class.{members}
use Rattle.iv_recogniser.proofs.Numbers.{has_members}
use Rattle.iv_recogniser.proofs.Same.{all_among}
use Rattle.iv_recogniser.proofs.laws.sets_are_their_members.Goals as goal

pub returns : goal.returns
returns c k test all x h = all_among test x (members k) (has_members k x h) all
