-- A search that works before each leaf.
use Rattle.std.specs.Prelude.{ℕ, zero, suc, List, [], ◌∷◌}
use Rattle.iv_seq.specs.Moments.{Moment, passes, begins, meets}

-- a piece of work and a leaf for each number below n, from the highest down
unfoldable pub countdown : ℕ → List (Moment ℕ)
countdown zero = []
countdown (suc n) = passes begins ∷ meets n ∷ countdown n
