use Rattle.iv_outer.proofs.JoinSteps.{joined}
use Rattle.iv_outer.proofs.laws.pieces_are_joined.Goals as goal

pub returns : goal.returns
returns c ts = joined ts
