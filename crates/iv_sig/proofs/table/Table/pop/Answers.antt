use Rattle.iv_sig.proofs.Entries.{keyed-front}
use Rattle.iv_sig.proofs.table.Table.pop.Goals as goal

pub invariant_of-self : goal.invariant_of-self
invariant_of-self g c = keyed-front (λ k. k.items) _ _ (rw c.pop.ensures.entries at c.self.invariant)
