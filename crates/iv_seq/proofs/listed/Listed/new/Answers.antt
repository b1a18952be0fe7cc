use Rattle.iv_seq.proofs.Parts.{turned}
use Rattle.iv_seq.proofs.listed.Listed.new.Goals as goal

pub returns-clause-fits : goal.returns-clause-fits
returns-clause-fits g c = turned _ _ c.reverse.ensures.items
