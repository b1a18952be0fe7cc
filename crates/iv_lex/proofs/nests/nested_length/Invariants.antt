use Rattle.std.proofs.Common.{◌+◌, ◌-◌, ◌≤◌, length, ◌≡◌, drop}
use Rattle.std.specs.Option.{option_map}
use Rattle.iv_lex.specs.Form.{nested_from}
use Rattle.iv_lex.proofs.nests.nested_length.Given as goal

abbrev pub invariant-loop-at : goal.invariant-loop-at
invariant-loop-at l = record {
  inside : l.at ≤ length l.letters;
  shallow : l.depth ≤ l.at;
  so_far : option_map (λ n. l.at + n) (nested_from l.nest 0 l.depth (drop l.at l.letters)) ≡ nested_from l.nest 0 0 l.letters;
}

abbrev pub decreases-loop-at : goal.decreases-loop-at
decreases-loop-at l = length l.letters - l.at
