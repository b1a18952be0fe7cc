use Rattle.std.proofs.Math.Logic.{∥∥₁_elim}
use Rattle.std.proofs.Math.Bridge.{le_prop}
use Rattle.tests_seq.proofs.work.ShortFollow.follow.Goals as goal

pub overflow_sub-result : goal.overflow_sub-result
overflow_sub-result c = ∥∥₁_elim c.requires le_prop (λ h. h)
