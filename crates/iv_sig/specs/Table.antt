-- Tables by name: entries in order of declaration (of this project).
use Rattle.std.specs.Prelude.{◌≡◌, ℕ, List, [], ◌∷◌, Option}
use Rattle.std.specs.Map.{lookup}
use Rattle.std.specs.Str.{bytes_eq}

-- what the first entry of a name has
abbrev pub look : {V : Type 0} → List (List ℕ × V) → List ℕ → Option V
look es n = lookup (bytes_eq n) es

-- each entry of a map holds its key as a name
abbrev pub NamesAreKeys : {K V : Type 0} → (K → List ℕ) → List (K × (List ℕ × V)) → Type 0
NamesAreKeys letters [] = Unit {0}
NamesAreKeys letters (e ∷ es) = (letters e.0 ≡ e.1.0) × NamesAreKeys letters es
