use Rattle.std.proofs.Common.{◌∙◌}
use Rattle.std.proofs.lemmas.List.{map-append}
use Rattle.indexmap.proofs.CallerLemmas.{insert_entry-new}
use Rattle.iv_sig.proofs.Entries.{new-key, keyed-push}
use Rattle.iv_sig.proofs.table.Table.push.Goals as goal

pub invariant_of-self-2 : goal.invariant_of-self-2
invariant_of-self-2 g c =
    let same = c.in_ok-key.ensures.items ∙ c.as_slice.ensures in
    let new = new-key (λ k. k.items) c.self.inside.by_name.entries c.in_ok-key.key c.args.name c.self.invariant same (rw (← c.self.view_is) at c.requires) in
    let placed = c.in_ok-insert.ensures.entries ∙ insert_entry-new _ c.self.inside.by_name c.in_ok-key.key (c.args.name, c.args.value) new in
    rw placed (keyed-push (λ k. k.items) _ _ _ _ c.self.invariant same)

pub returns-clause-ok : goal.returns-clause-ok
returns-clause-ok g c =
    let same = c.in_ok-key.ensures.items ∙ c.as_slice.ensures in
    let new = new-key (λ k. k.items) c.self.inside.by_name.entries c.in_ok-key.key c.args.name c.self.invariant same (rw (← c.self.view_is) at c.requires) in
    let placed = c.in_ok-insert.ensures.entries ∙ insert_entry-new _ c.self.inside.by_name c.in_ok-key.key (c.args.name, c.args.value) new in
    rw (placed, ← c.self.view_is) (map-append _ c.self.inside.by_name.entries _)
