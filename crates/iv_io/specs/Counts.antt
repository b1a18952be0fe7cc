-- Counts of bytes and of faults, of this project. A count stops at its last value.
use Rattle.std.specs.Prelude.{ℕ, ◌+◌, ◌<◌, ◌≤◌, min, ◌⊎◌}

-- the last value of a count, 2 ^ 64 - 1
abbrev pub last_count : ℕ
last_count = 18446744073709551615

-- the count n more than m
abbrev pub counted : ℕ → ℕ → ℕ
counted m n = min (m + n) last_count

-- a count rose; one that stands at its last value counts as risen
abbrev pub Rose : ℕ → ℕ → Type 0
Rose old new = (old < new) ⊎ (last_count ≤ new)

-- a count rose by more than n; one that stands at its last value counts as risen so
abbrev pub RoseAbove : ℕ → ℕ → ℕ → Type 0
RoseAbove n old new = (old + n < new) ⊎ (last_count ≤ new)

-- how many bytes and faults a source has counted
pub record Tally : Type 0 where
  pub taken : ℕ
  pub faults : ℕ
