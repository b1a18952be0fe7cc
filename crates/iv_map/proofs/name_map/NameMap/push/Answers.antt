use Rattle.std.proofs.Common.{◌∙◌}
use Rattle.indexmap.proofs.CallerLemmas.{insert_entry-new}
use Rattle.iv_text.specs.Name.{same_name}
use Rattle.iv_map.proofs.name_map.NameMap.push.Goals as goal

pub returns-clause-ok : goal.returns-clause-ok
returns-clause-ok g c =
    c.in_ok-insert.ensures.entries ∙ rw (← c.self.view_is) (insert_entry-new same_name c.self.inside.by_name c.args.name c.args.value (rw (← c.self.view_is) at c.requires))
