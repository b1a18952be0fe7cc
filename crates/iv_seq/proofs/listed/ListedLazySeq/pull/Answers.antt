use Rattle.iv_seq.proofs.Parts.{popped}
use Rattle.iv_seq.proofs.listed.ListedLazySeq.pull.Goals as goal

pub returns-clause-fitting : goal.returns-clause-fitting
returns-clause-fitting g c = popped _ _ _ c.pop.ensures.items
