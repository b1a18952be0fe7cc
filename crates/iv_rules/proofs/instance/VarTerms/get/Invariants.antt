use Rattle.std.proofs.Common.{◌≡◌, drop}
use Rattle.std.specs.Map.{lookup}
use Rattle.iv_rules.specs.Entries.{same_var}
use Rattle.iv_rules.proofs.instance.VarTerms.get.Given as goal

abbrev pub invariant-loop-entry : goal.invariant-loop-entry
invariant-loop-entry l = lookup (λ k. same_var k (l.name, l.typ)) l.self ≡ lookup (λ k. same_var k (l.name, l.typ)) (drop l.entry-index l.entry-items)
