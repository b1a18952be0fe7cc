use Rattle.iv_grammar.proofs.CutSteps.{one_cut}
use Rattle.iv_grammar.proofs.laws.there_is_one_cut.Goals as goal

pub returns : goal.returns
returns c = one_cut
