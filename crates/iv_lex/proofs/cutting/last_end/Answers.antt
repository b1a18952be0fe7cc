use Rattle.std.proofs.Common.{◌-◌, length, arith}
use Rattle.iv_lex.proofs.TokenSteps.{last_is}
use Rattle.iv_lex.proofs.cutting.last_end.Goals as goal

pub returns : goal.returns
returns c = last_is c.args.letters.now (length c.args.letters.now - 1) _ (omega (arith, c.if-count-eq0.false))
