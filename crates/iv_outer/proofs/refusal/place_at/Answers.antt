use Rattle.iv_outer.proofs.PlaceSteps.{at_is}
use Rattle.iv_outer.proofs.refusal.place_at.Goals as goal

pub returns : goal.returns
returns c = at_is c.args.lexemes.now c.args.index _ c.requires
