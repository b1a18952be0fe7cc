-- A step of the recogniser. After predictive parsers (Lewis and Stearns 1968).
use Rattle.std.specs.Prelude.{◌≡◌, List, [], ◌∷◌, ◌++◌, Bool, true, false, Option, Some, None, if◌then◌else◌}
use Rattle.std.specs.List.{list_all}
use Rattle.std.specs.Borrow.{Bor}
use Rattle.iv_recogniser.specs.declared.class.Class.{Class}
use Rattle.iv_recogniser.specs.declared.part.Symbol.{Symbol}
use Rattle.iv_recogniser.specs.declared.part.Symbol.TheVariants.{Word, Goes}
use Rattle.iv_recogniser.specs.Class.{has}
use Rattle.iv_recogniser.specs.Spell.{Grammar}

-- what stands behind the first symbol of a row, where that is a token of this class
abbrev pub behind : List Symbol → Class → Option (List Symbol)
behind [] c = None
behind (Goes p ∷ r) c = None
behind (Word k ∷ r) c = if has k c then Some r else None

-- the first, or else the second
abbrev pub first_some : Option (List Symbol) → Option (List Symbol) → Option (List Symbol)
first_some (Some r) o = Some r
first_some None o = o

-- what stands behind the first symbol of the row that begins with this class
abbrev pub found : List (List Symbol) → Class → Option (List Symbol)
found [] c = None
found (r ∷ rows) c = first_some (behind r c) (found rows c)

-- whether the first row is empty
abbrev pub may_end : List (List Symbol) → Bool
may_end [] = false
may_end ([] ∷ rows) = true
may_end ((x ∷ r) ∷ rows) = false

-- a row is put in a part's place, or the part is passed
abbrev pub went : Option (List Symbol) → Bool → List Symbol → Option (List Symbol) → Option (List Symbol)
went (Some r) ends s next = Some (r ++ s)
went None true s next = next
went None false s next = None

-- what is to be read behind a class, where it can stand first
abbrev pub step : Grammar → List Symbol → Class → Option (List Symbol)
step g [] c = None
step g (Word k ∷ s) c = if has k c then Some s else None
step g (Goes p ∷ s) c = went (found (g p) c) (may_end (g p)) s (step g s c)

-- whether a symbol may be passed by
abbrev pub passes : Grammar → Symbol → Bool
passes g (Word k) = false
passes g (Goes p) = may_end (g p)

-- whether nothing more need be read
abbrev pub empties : Grammar → List Symbol → Bool
empties g s = list_all (passes g) s

-- whether a class can stand here, and what is to be read behind it
abbrev pub Stepped : Grammar → Bool → List Symbol → Class → List Symbol → Type 0
Stepped g true s c s' = step g s c ≡ Some s'
Stepped g false s c s' = step g s c ≡ None

-- what an optional row points to
abbrev pub rest_of : Option (Bor (List Symbol)) → Option (List Symbol)
rest_of None = None
rest_of (Some r) = Some r.now
