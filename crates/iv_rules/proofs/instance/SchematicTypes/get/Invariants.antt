use Rattle.std.proofs.Common.{◌≡◌, drop}
use Rattle.std.specs.Map.{lookup}
use Rattle.iv_text.specs.Name.{same_name}
use Rattle.iv_rules.proofs.instance.SchematicTypes.get.Given as goal

abbrev pub invariant-loop-entry : goal.invariant-loop-entry
invariant-loop-entry l = lookup (λ k. same_name k l.name) l.self ≡ lookup (λ k. same_name k l.name) (drop l.entry-index l.entry-items)
