use Rattle.iv_grammar.proofs.TypeReading.{one_type}
use Rattle.iv_grammar.proofs.laws.there_is_one_type.Goals as goal

pub returns : goal.returns
returns c = one_type
