-- Substitutions: types and terms put for schematic variables (Huet 1975; Robinson 1965).
use Rattle.std.specs.Prelude.{◌≡◌, Bool, true, false, if◌then◌else◌, List, [], ◌∷◌, ◌++◌, Option, Some, None}
use Rattle.iv_text.specs.declared.name.Name.{Name}
use Rattle.iv_term.specs.declared.typ.Typ.{Typ}
use Rattle.iv_term.specs.declared.typ.Typ.TheBlock.{Schematic as Variable, Nil as no_types}
use Rattle.iv_term.specs.declared.term.Head.{Head}
use Rattle.iv_term.specs.declared.term.Head.TheVariants.{Schematic}
use Rattle.iv_term.specs.declared.term.Term.{Term}
use Rattle.iv_text.specs.Name.{same_name}
use Rattle.iv_hsub.specs.Typing.{IsTerm}
use Rattle.iv_subst.specs.TySubst.{TyMap, at}
use Rattle.iv_subst.specs.TySubst as types_specs
use Rattle.iv_hsub.specs.Retype.{retype}
use Rattle.iv_hsub.specs.Inst.{inst, Vars, Fits}

-- a finite map from schematic variables to terms; the first entry of a name counts
abbrev pub TermMap : Type 0
TermMap = List (Name × Term)

-- the entry of a name
unfoldable pub value_of : TermMap → Name → Option Term
value_of [] y = None
value_of (e ∷ es) y = if same_name y e.0 then Some e.1 else value_of es y

-- whether a name has an entry
unfoldable pub has_value : TermMap → Name → Bool
has_value [] y = false
has_value (e ∷ es) y = if same_name y e.0 then true else has_value es y

-- types and terms
abbrev pub Substitution : Type 0
Substitution = TyMap × TermMap

-- a map of types as a function of variables: fixed ones stay
abbrev pub by_map : TyMap → Typ → Typ
by_map s (Variable x) = at s x
by_map s a = a

-- a map of terms as a function of heads: what isn't a schematic variable stays
abbrev pub by_name : (Name → Option Term) → Head → Option Term
by_name values (Schematic x a) = values x
by_name values h = None

-- the values of a substitution
abbrev pub values : Substitution → Head → Option Term
values s = by_name (value_of s.1)

-- a term under a substitution: its types first, and then all its terms at once
abbrev pub applied : Substitution → Term → Term
applied s t = inst (values s) (retype (by_map s.0) t)

-- the value of each variable in a term has no loose index, and it has the variable's type under the types
abbrev pub CanApply : Substitution → Term → Type 0
CanApply s t = Vars (λ h a. Fits (values s h) a) (retype (by_map s.0) t)

-- what holds of each value
unfoldable pub Values : (Term → Type 0) → TermMap → Type 0
Values P [] = Unit {0}
Values P (e ∷ es) = P e.1 × Values P es

-- each value is a term without loose indices
abbrev pub AreClosed : TermMap → Type 0
AreClosed es = Values (IsTerm no_types) es

-- the map with each of its values under a substitution
unfoldable pub under : Substitution → TermMap → TermMap
under s [] = []
under s (e ∷ es) = (e.0, applied s e.1) ∷ under s es

-- the entries of later ones whose names have none in the first
unfoldable pub unhidden : TermMap → TermMap → TermMap
unhidden first [] = []
unhidden first (e ∷ es) = if has_value first e.0 then unhidden first es else e ∷ unhidden first es

-- the substitution of one and then another: the values of the first under the second, and the second's for all other names
abbrev pub composed : Substitution → Substitution → Substitution
composed first next = (types_specs.composed first.0 next.0, under next first.1 ++ unhidden first.1 next.1)

-- the second can be applied to each value of the first
abbrev pub CanCompose : Substitution → Substitution → Type 0
CanCompose first next = Values (CanApply next) first.1

-- the second's value fits each variable that the first leaves
abbrev pub CanFollow : Substitution → Substitution → Term → Type 0
CanFollow first next t = Vars (λ h a. values first h ≡ None → Fits (values next h) a) (retype (by_map next.0) (retype (by_map first.0) t))
