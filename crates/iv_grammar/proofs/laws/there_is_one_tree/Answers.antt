use Rattle.iv_grammar.proofs.Reading.{one_tree}
use Rattle.iv_grammar.proofs.laws.there_is_one_tree.Goals as goal

pub returns : goal.returns
returns c = one_tree
