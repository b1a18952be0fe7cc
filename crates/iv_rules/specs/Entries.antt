-- What is put for variables, as lists of entries; keys of one list differ (of this project).
use Rattle.std.specs.Prelude.{ℕ, Bool, ◌&&◌, List, Option}
use Rattle.std.specs.Map.{lookup}
use Rattle.std.specs.Str.{bytes_eq}
use Rattle.iv_text.specs.declared.name.Name.{Name}
use Rattle.iv_term.specs.declared.typ.Typ.{Typ}
use Rattle.iv_term.specs.declared.term.Term.{Term}
use Rattle.iv_term.specs.Typ.{same_typ}
use Rattle.iv_text.specs.Name.{same_name}

-- types for fixed and for schematic type variables; terms for variables of one kind, by name and type
abbrev pub FixedMap : Type 0
FixedMap = List (List ℕ × Typ)

abbrev pub SchematicMap : Type 0
SchematicMap = List (Name × Typ)

abbrev pub VarMap : Type 0
VarMap = List ((Name × Typ) × Term)

-- whether two variables of one kind are the same
abbrev pub same_var : Name × Typ → Name × Typ → Bool
same_var x y = same_name x.0 y.0 && same_typ x.1 y.1

-- what is put for a variable, where it has an entry
abbrev pub fixed_at : FixedMap → List ℕ → Option Typ
fixed_at es a = lookup (λ k. bytes_eq k a) es

abbrev pub schematic_at : SchematicMap → Name → Option Typ
schematic_at es x = lookup (λ k. same_name k x) es

abbrev pub term_at : VarMap → Name → Typ → Option Term
term_at es x a = lookup (λ k. same_var k (x, a)) es
