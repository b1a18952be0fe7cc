use Rattle.iv_sig.proofs.Entries.{names_differ}
use Rattle.iv_sig.proofs.table.Table.names_differ.Goals as goal

pub returns : goal.returns
returns g c = rw (← c.self.view_is) (names_differ (λ k. k.items) _ c.self.invariant c.len-count.ensures.unique)
