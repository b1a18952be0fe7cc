-- The schematic variables of terms, each with its type, and which terms have none (of this project).
use Rattle.std.specs.Prelude.{◌≡◌, Bool, true, false, ◌||◌, List, [], ◌∷◌, ◌++◌}
use Rattle.std.specs.List.{AllByRecursion}
use Rattle.iv_text.specs.declared.name.Name.{Name}
use Rattle.iv_term.specs.declared.typ.Typ.{Typ}
use Rattle.iv_term.specs.declared.typ.Types.{Types}
use Rattle.iv_term.specs.declared.typ.Typ.TheBlock.{Con, Fixed, Schematic as Variable, Nil as no_types}
use Rattle.iv_term.specs.declared.term.Head.{Head}
use Rattle.iv_term.specs.declared.term.Head.TheVariants.{Const, Free, Schematic, Bound}
use Rattle.iv_term.specs.declared.term.Term.{Term}
use Rattle.iv_term.specs.declared.term.Terms.{Terms}
use Rattle.iv_term.specs.declared.term.Term.TheBlock.{Spine, Nil}
use Rattle.iv_term.specs.Typ.{ty_cons}
use Rattle.iv_term.specs.Term.{lam, tm_cons}

unfoldable mutual
  -- whether a schematic type variable stands in a type
  pub is_open : Typ → Bool
  is_open (Con c ts) = are_open ts
  is_open (Fixed a) = false
  is_open (Variable x) = true

  pub are_open : Types → Bool
  are_open no_types = false
  are_open (ty_cons t ts) = is_open t || are_open ts

-- whether a head is a schematic variable, or a schematic type variable stands in its type
abbrev pub is_schematic_head : Head → Bool
is_schematic_head (Const c a) = is_open a
is_schematic_head (Free x a) = is_open a
is_schematic_head (Schematic x a) = true
is_schematic_head (Bound n) = false

unfoldable mutual
  -- whether a schematic variable or a schematic type variable stands in a term
  pub is_schematic : Term → Bool
  is_schematic (lam a b) = is_open a || is_schematic b
  is_schematic (Spine h ts) = is_schematic_head h || are_schematic ts

  pub are_schematic : Terms → Bool
  are_schematic Nil = false
  are_schematic (tm_cons t ts) = is_schematic t || are_schematic ts

-- the schematic variable that a head is
abbrev pub variable_of : Head → List (Name × Typ)
variable_of (Schematic x a) = (x, a) ∷ []
variable_of h = []

unfoldable mutual
  -- the schematic variables of a term, in order
  pub variables_of : Term → List (Name × Typ)
  variables_of (lam a b) = variables_of b
  variables_of (Spine h ts) = variable_of h ++ variables_of_all ts

  pub variables_of_all : Terms → List (Name × Typ)
  variables_of_all Nil = []
  variables_of_all (tm_cons t ts) = variables_of t ++ variables_of_all ts

-- those of one name have one type
abbrev pub HasOneType : List (Name × Typ) → Name → Typ → Type 0
HasOneType vs x a = AllByRecursion (λ v. v.0 ≡ x → v.1 ≡ a) vs

abbrev pub AreOneTyped : List (Name × Typ) → Type 0
AreOneTyped vs = AllByRecursion (λ v. HasOneType vs v.0 v.1) vs
