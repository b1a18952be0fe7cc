use Rattle.std.proofs.Common.{◌++◌, ◌-◌, ◌≤◌, length, ◌≡◌, drop}
use Rattle.iv_outer.specs.Piece.{pieces_from}
use Rattle.iv_outer.proofs.pieces.split.Given as goal

abbrev pub invariant-loop-at : goal.invariant-loop-at
invariant-loop-at l = record {
  inside : l.at ≤ length l.tokens;
  so_far : l.found.items ++ pieces_from 0 l.at (drop l.at l.tokens) ≡ pieces_from 0 0 l.tokens;
}

abbrev pub decreases-loop-at : goal.decreases-loop-at
decreases-loop-at l = length l.tokens - l.at
