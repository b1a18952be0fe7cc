use Rattle.iv_sig.proofs.BothWays.{from-symbol, from-constant}
use Rattle.iv_sig.proofs.laws.notations_are_found_both_ways.Goals as goal

pub returns : goal.returns
returns c = record { by_symbol = from-symbol; by_constant = from-constant }
