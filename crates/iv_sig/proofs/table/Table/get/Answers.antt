use Rattle.iv_sig.proofs.Entries.{look-none, look-some}
use Rattle.iv_sig.proofs.table.Table.get.Goals as goal

pub returns-in-None : goal.returns-in-None
returns-in-None g c =
    let found = rw c.as_slice.ensures at c.in-None.ensures.value in
    rw (← c.self.view_is) (look-none (λ k. k.items) c.self.inside.by_name.entries c.args.name.now c.self.invariant found)

pub returns-in-Some : goal.returns-in-Some
returns-in-Some g c =
    let found = rw c.as_slice.ensures at c.in-Some.ensures.value in
    rw (← c.self.view_is) (look-some (λ k. k.items) c.self.inside.by_name.entries c.args.name.now _ c.self.invariant found)
