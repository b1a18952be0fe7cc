use Rattle.std.proofs.Common.{◌≡◌, drop}
use Rattle.std.specs.Map.{lookup}
use Rattle.std.specs.Str.{bytes_eq}
use Rattle.iv_rules.proofs.instance.FixedTypes.get.Given as goal

abbrev pub invariant-loop-entry : goal.invariant-loop-entry
invariant-loop-entry l = lookup (λ k. bytes_eq k l.name) l.self ≡ lookup (λ k. bytes_eq k l.name) (drop l.entry-index l.entry-items)
