use Rattle.std.proofs.Common.{◌-◌, length, arith}
use Rattle.iv_outer.proofs.PlaceSteps.{last_is}
use Rattle.iv_outer.proofs.refusal.end_of.Goals as goal

pub returns : goal.returns
returns c = last_is c.args.lexemes.now (length c.args.lexemes.now - 1) _ (omega (arith, c.if-count-eq0.false))
