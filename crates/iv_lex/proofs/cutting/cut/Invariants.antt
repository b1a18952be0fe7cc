use Rattle.std.proofs.Common.{◌++◌, ◌-◌, ◌≤◌, length, ◌≡◌, drop}
use Rattle.iv_lex.specs.Token.{tokens_from}
use Rattle.iv_lex.proofs.cutting.cut.Given as goal

abbrev pub invariant-loop-at : goal.invariant-loop-at
invariant-loop-at l = record {
  inside : l.at ≤ length l.letters;
  so_far : l.found.items ++ tokens_from 0 (drop l.at l.letters) ≡ tokens_from 0 l.letters;
}

abbrev pub decreases-loop-at : goal.decreases-loop-at
decreases-loop-at l = length l.letters - l.at
