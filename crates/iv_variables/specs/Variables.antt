-- The variables of types and terms, each place of them in the order of reading: an abstraction's type and then its body, a head,
-- its type and then its arguments (of this project, after Isabelle's folds over terms).
use Rattle.std.specs.Prelude.{Bool, true, false, ◌&&◌, List, [], ◌∷◌, ◌++◌, ◌⊎◌}
use Rattle.std.specs.Str.{bytes_eq}
use Rattle.iv_text.specs.Name.{same_name}
use Rattle.iv_term.specs.declared.typ.Typ.{Typ}
use Rattle.iv_term.specs.declared.typ.Types.{Types}
use Rattle.iv_term.specs.declared.typ.Typ.TheBlock.{Con, Fixed, Schematic as TypeVariable, Nil as no_types}
use Rattle.iv_term.specs.declared.term.Head.{Head}
use Rattle.iv_term.specs.declared.term.Head.TheVariants.{Const, Free as FreeHead, Schematic as SchematicHead, Bound}
use Rattle.iv_term.specs.declared.term.Term.{Term}
use Rattle.iv_term.specs.declared.term.Terms.{Terms}
use Rattle.iv_term.specs.declared.term.Term.TheBlock.{Spine, Nil}
use Rattle.iv_term.specs.Typ.{ty_cons, same_typ}
use Rattle.iv_term.specs.Term.{lam, tm_cons}
use Rattle.iv_variables.specs.declared.variable.Variable.{Variable}
use Rattle.iv_variables.specs.declared.variable.Variable.TheVariants.{FixedType, SchematicType, Free, Schematic}

-- whether two variables are the same: of one kind, name and type
abbrev pub same_variable : Variable → Variable → Bool
same_variable (FixedType a) (FixedType b) = bytes_eq a b
same_variable (SchematicType x) (SchematicType y) = same_name x y
same_variable (Free x a) (Free y b) = same_name x y && same_typ a b
same_variable (Schematic x a) (Schematic y b) = same_name x y && same_typ a b
same_variable _ _ = false

unfoldable mutual
  -- the variables of a type
  pub typ_variables : Typ → List Variable
  typ_variables (Con c ts) = types_variables ts
  typ_variables (Fixed a) = FixedType a ∷ []
  typ_variables (TypeVariable x) = SchematicType x ∷ []

  pub types_variables : Types → List Variable
  types_variables no_types = []
  types_variables (ty_cons t ts) = typ_variables t ++ types_variables ts

-- the variables of a head: the one that it is, and those of its type
abbrev pub head_variables : Head → List Variable
head_variables (Const c a) = typ_variables a
head_variables (FreeHead x a) = Free x a ∷ typ_variables a
head_variables (SchematicHead x a) = Schematic x a ∷ typ_variables a
head_variables (Bound n) = []

unfoldable mutual
  -- the variables of a term
  pub variables : Term → List Variable
  variables (lam a b) = typ_variables a ++ variables b
  variables (Spine h ts) = head_variables h ++ terms_variables ts

  pub terms_variables : Terms → List Variable
  terms_variables Nil = []
  terms_variables (tm_cons t ts) = variables t ++ terms_variables ts

-- P holds of one of the variables
unfoldable pub IsOfOne : (Variable → Type 0) → List Variable → Type 0
IsOfOne P [] = ⊥
IsOfOne P (v ∷ vs) = P v ⊎ IsOfOne P vs
