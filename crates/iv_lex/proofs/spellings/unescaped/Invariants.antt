use Rattle.std.proofs.Common.{false, ◌++◌, ◌-◌, ◌≤◌, length, ◌≡◌, drop}
use Rattle.iv_lex.specs.Spelling.{unescaped}
use Rattle.iv_lex.proofs.spellings.unescaped.Given as goal

abbrev pub invariant-loop-at : goal.invariant-loop-at
invariant-loop-at l = record {
  inside : l.at ≤ length l.chars;
  so_far : l.text.items ++ unescaped l.escaped (drop l.at l.chars) ≡ unescaped false l.chars;
}

abbrev pub decreases-loop-at : goal.decreases-loop-at
decreases-loop-at l = length l.chars - l.at
