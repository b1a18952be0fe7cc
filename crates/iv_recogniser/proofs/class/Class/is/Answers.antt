-- A variant's number in the code is the class's.
use Rattle.std.proofs.Common.{refl}
use Rattle.iv_recogniser.proofs.Numbers.{tag_is}
use Rattle.iv_recogniser.proofs.class.Class.is.Goals as goal

pub returns : goal.returns
returns c = rw (tag_is c.args.self, tag_is c.args.other) refl
