use Rattle.std.proofs.Common.{length}
use Rattle.iv_kernel.specs.Order.{listed}
use Rattle.iv_kernel.proofs.rotate.+discharged.Given as goal

abbrev pub decreases-discharged : goal.decreases-discharged
decreases-discharged l = length (listed l.props.now)
