-- Which types a judgment may have, and which terms are axioms (Reference Manual, Pure; the conditions are of this project).
use Rattle.std.specs.Prelude.{◌≡◌, Bool, true, false, ◌||◌}
use Rattle.iv_term.specs.declared.typ.Typ.{Typ}
use Rattle.iv_term.specs.declared.typ.Types.{Types}
use Rattle.iv_term.specs.declared.typ.Typ.TheBlock.{Con, Fixed, Schematic, Nil}
use Rattle.iv_term.specs.declared.term.Head.{Head}
use Rattle.iv_term.specs.declared.term.Head.TheVariants.{Free}
use Rattle.iv_term.specs.declared.term.Term.{Term}
use Rattle.iv_term.specs.declared.term.Terms.{Terms}
use Rattle.iv_term.specs.declared.term.Term.TheBlock.{Spine, Nil as no_terms}
use Rattle.iv_term.specs.Typ.{prop, fun, ty_cons}
use Rattle.iv_term.specs.Term.{lam, tm_cons}
use Rattle.iv_hsub.specs.Typing.{dom, HasType}
use Rattle.iv_hsub.specs.Index.{loose}

unfoldable mutual
  -- whether a type variable, fixed or schematic, stands in a type
  pub has_variable : Typ → Bool
  has_variable (Con c ts) = any_has_variable ts
  has_variable (Fixed a) = true
  has_variable (Schematic x) = true

  pub any_has_variable : Types → Bool
  any_has_variable Nil = false
  any_has_variable (ty_cons a ts) = has_variable a || any_has_variable ts

-- a type that a judgment may have: T => prop with a T without type variables
abbrev pub IsJudgmentType : Typ → Type 0
IsJudgmentType a = (a ≡ fun (dom a) prop) × (has_variable (dom a) ≡ false)

-- whether a head is a free variable
abbrev pub is_free : Head → Bool
is_free (Free x a) = true
is_free h = false

unfoldable mutual
  -- whether a free variable stands in a term
  pub has_free : Term → Bool
  has_free (lam a b) = has_free b
  has_free (Spine h ts) = is_free h || any_has_free ts

  pub any_has_free : Terms → Bool
  any_has_free no_terms = false
  any_has_free (tm_cons t ts) = has_free t || any_has_free ts

-- a term that may be an axiom: of type prop, with no loose index and no free variable
abbrev pub IsAxiom : Term → Type 0
IsAxiom t = HasType Nil prop t × (loose t ≡ 0) × (has_free t ≡ false)
