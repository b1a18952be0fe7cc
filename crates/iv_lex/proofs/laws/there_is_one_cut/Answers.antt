use Rattle.iv_lex.proofs.CutSteps.{document_cut, one_cut}
use Rattle.iv_lex.proofs.laws.there_is_one_cut.Goals as goal

pub returns : goal.returns
returns c = record { some = document_cut; one = one_cut }
