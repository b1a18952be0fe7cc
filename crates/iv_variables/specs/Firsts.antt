-- Variables once each, in the order in which they first occur, and numbers beyond them (of this project).
use Rattle.std.specs.Prelude.{ℕ, zero, suc, Bool, true, false, not, List, [], ◌∷◌, ◌++◌, filter, max}
use Rattle.std.specs.List.{list_any}
use Rattle.iv_text.specs.declared.name.Name.{Name}
use Rattle.iv_text.specs.Name.{same_name}
use Rattle.iv_variables.specs.declared.variable.Variable.{Variable}
use Rattle.iv_variables.specs.declared.variable.Variable.TheVariants.{FixedType, SchematicType, Free, Schematic}
use Rattle.iv_variables.specs.declared.kind.Kind.{Kind}
use Rattle.iv_variables.specs.declared.kind.Kind.TheVariants.{FixedTypes, SchematicTypes, Frees, Schematics, Numbered}
use Rattle.iv_variables.specs.Variables.{same_variable}

-- whether a variable is of a kind
abbrev pub of_kind : Kind → Variable → Bool
of_kind FixedTypes (FixedType a) = true
of_kind SchematicTypes (SchematicType x) = true
of_kind Frees (Free x a) = true
of_kind Schematics (Schematic x a) = true
of_kind Numbered (SchematicType x) = true
of_kind Numbered (Schematic x a) = true
of_kind _ _ = false

-- whether a variable has a name; a fixed type variable has none
abbrev pub has_name : Name → Variable → Bool
has_name x (FixedType a) = false
has_name x (SchematicType y) = same_name x y
has_name x (Free y a) = same_name x y
has_name x (Schematic y a) = same_name x y

-- whether a variable is among some
abbrev pub stands : Variable → List Variable → Bool
stands v vs = list_any (same_variable v) vs

-- the variables but one
abbrev pub without : Variable → List Variable → List Variable
without v vs = filter (λ w. not (same_variable v w)) vs

-- each variable at its first place alone
unfoldable pub firsts : List Variable → List Variable
firsts [] = []
firsts (v ∷ vs) = v ∷ without v (firsts vs)

-- some variables, and after them what is new of others, each at its first place
abbrev pub extended : List Variable → List Variable → List Variable
extended us vs = us ++ filter (λ v. not (stands v us)) (firsts vs)

-- the least number above a variable's own, where it is schematic; else 0
abbrev pub next_of : Variable → ℕ
next_of (FixedType a) = 0
next_of (SchematicType x) = suc x.number
next_of (Free x a) = 0
next_of (Schematic x a) = suc x.number

-- one more than the greatest number of a schematic variable or schematic type variable, and 0 where there is none
unfoldable pub next_number : List Variable → ℕ
next_number [] = 0
next_number (v ∷ vs) = max (next_of v) (next_number vs)
