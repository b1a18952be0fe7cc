use Rattle.std.proofs.Common.{false, ◌+◌, ◌-◌, ◌≤◌, length, ◌≡◌, drop}
use Rattle.std.specs.Option.{option_map}
use Rattle.iv_lex.specs.Form.{string_from}
use Rattle.iv_lex.proofs.forms.string_more.Given as goal

abbrev pub invariant-loop-at : goal.invariant-loop-at
invariant-loop-at l = record {
  inside : l.at ≤ length l.letters;
  so_far : option_map (λ n. l.at + n) (string_from l.escaped (drop l.at l.letters)) ≡ string_from false l.letters;
}

abbrev pub decreases-loop-at : goal.decreases-loop-at
decreases-loop-at l = length l.letters - l.at
