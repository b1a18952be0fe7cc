-- The checks of a table: rows are empty or begin with a token, one class begins at most one row of a part, and where a part may end, nothing that may follow it begins one of its rows.
use Rattle.std.proofs.Common.{List, [], ◌∷◌, ◌++◌, Bool, true, false}
use Rattle.std.specs.Prelude.{Option, Some, None, ◌&&◌, is_none, if◌then◌else◌}
use Rattle.std.specs.List.{list_any, list_all}
use Rattle.iv_recogniser.specs.declared.class.Class.{Class}
use Rattle.iv_recogniser.specs.declared.part.Part.{Part}
use Rattle.iv_recogniser.specs.declared.part.Symbol.{Symbol}
use Rattle.iv_recogniser.specs.declared.part.Symbol.TheVariants.{Word, Goes}
use Rattle.iv_recogniser.specs.Class.{same_class}
use Rattle.iv_recogniser.specs.Spell.{Grammar}
use Rattle.iv_recogniser.specs.Step.{found, may_end, step, empties}
use Rattle.iv_recogniser.specs.Class.{members}

-- what begins one of some rows
abbrev pub heads : List (List Symbol) → List Class
heads [] = []
heads ([] ∷ rows) = heads rows
heads ((Goes p ∷ r) ∷ rows) = heads rows
heads ((Word k ∷ r) ∷ rows) = members k ++ heads rows

-- what begins some symbols
abbrev pub firsts : Grammar → List Symbol → List Class
firsts g [] = []
firsts g (Word k ∷ s) = members k
firsts g (Goes p ∷ s) = heads (g p) ++ (if may_end (g p) then firsts g s else [])

-- each row begins with a token that begins no later row
abbrev pub is_alone : List (List Symbol) → Bool
is_alone [] = true
is_alone ([] ∷ rows) = false
is_alone ((Goes p ∷ r) ∷ rows) = false
is_alone ((Word k ∷ r) ∷ rows) = list_all (λ c. is_none (found rows c)) (members k) && is_alone rows

-- the same, where the first row may be empty
abbrev pub is_made : List (List Symbol) → Bool
is_made [] = true
is_made ([] ∷ rows) = is_alone rows
is_made ((x ∷ r) ∷ rows) = is_alone ((x ∷ r) ∷ rows)

-- nothing that may follow goes on
abbrev pub is_ended : List (List Symbol) → List Class → Bool
is_ended rows after = if may_end rows then list_all (λ c. is_none (found rows c)) after else true

-- what comes behind each part of a row may follow that part; `after` may follow the row
abbrev pub is_closed : Grammar → (Part → List Class) → List Class → List Symbol → Bool
is_closed g follow after [] = true
is_closed g follow after (Word k ∷ r) = is_closed g follow after r
is_closed g follow after (Goes q ∷ r) =
    (list_all (λ c. list_any (same_class c) (follow q)) (firsts g r) && (if empties g r then list_all (λ c. list_any (same_class c) (follow q)) after else true)) && is_closed g follow after r

abbrev pub are_closed : Grammar → (Part → List Class) → List Class → List (List Symbol) → Bool
are_closed g follow after [] = true
are_closed g follow after (r ∷ rows) = is_closed g follow after r && are_closed g follow after rows

abbrev pub is_good : Grammar → (Part → List Class) → Part → Bool
is_good g follow p = is_made (g p) && (is_ended (g p) (follow p) && are_closed g follow (follow p) (g p))

-- the classes lead from the symbols on
abbrev pub next : Grammar → Option (List Symbol) → Class → Option (List Symbol)
next g None c = None
next g (Some s) c = step g s c

abbrev pub run : Grammar → Option (List Symbol) → List Class → Option (List Symbol)
run g o [] = o
run g o (c ∷ cs) = run g (next g o c) cs

abbrev pub ends : Grammar → Option (List Symbol) → Bool
ends g None = false
ends g (Some s) = empties g s

-- the sample of a part is spelled by it
abbrev pub is_sampled : Grammar → (Part → List Class) → Part → Bool
is_sampled g sample p = ends g (run g (Some (Goes p ∷ [])) (sample p))
