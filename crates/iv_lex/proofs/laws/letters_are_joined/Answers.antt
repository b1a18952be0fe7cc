use Rattle.iv_lex.proofs.PlaceSteps.{joined_all}
use Rattle.iv_lex.proofs.laws.letters_are_joined.Goals as goal

pub returns : goal.returns
returns c = joined_all
