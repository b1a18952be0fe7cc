use Rattle.std.proofs.Common.{◌≡◌, ◌<◌, ℕ, false}
use Rattle.iv_statement.proofs.PartSteps.{arrow_at}
use Rattle.iv_statement.proofs.reading.next_part.Given as goal

abbrev pub invariant-loop-at : goal.invariant-loop-at
invariant-loop-at l = (k : ℕ) → k < l.at → arrow_at l.text k ≡ false
