use Rattle.std.proofs.Common.{length}
use Rattle.iv_outer.proofs.classify.+spelled.Given as goal

abbrev pub decreases-spelled : goal.decreases-spelled
decreases-spelled l = length l.word.now
