use Rattle.std.proofs.Common.{length, ◌-◌, ◌≡◌, ◌≤◌, ◌++◌, drop}
use Rattle.iv_lex.specs.Letter.{letters_from, letters_of}
use Rattle.iv_lex.proofs.letters.letters.Given as goal

abbrev pub invariant-loop-at : goal.invariant-loop-at
invariant-loop-at l = record {
  inside : l.at ≤ length l.bytes;
  so_far : l.found.items ++ letters_from 0 l.at (drop l.at l.bytes) ≡ letters_of l.bytes;
}

abbrev pub decreases-loop-at : goal.decreases-loop-at
decreases-loop-at l = length l.bytes - l.at
