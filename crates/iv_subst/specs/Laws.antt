-- What the laws on putting types and on unification say.
use Rattle.std.specs.Prelude.{◌≡◌, true}
use Rattle.iv_text.specs.declared.name.Name.{Name}
use Rattle.iv_term.specs.declared.typ.Typ.{Typ}
use Rattle.iv_term.specs.declared.typ.Typ.TheBlock.{Schematic}
use Rattle.iv_subst.specs.TySubst.{put_typ, occurs, TyMap, at, IsIdempotent}
use Rattle.iv_subst.specs.Unifier.{IsSolved}

-- functions that agree on the variables of a type put the same; a type stays exactly where each of its variables does
abbrev pub PutsAgree : Type 0
PutsAgree = (f g : Name → Typ) (t : Typ) → ((x : Name) → occurs x t ≡ true → f x ≡ g x) → put_typ f t ≡ put_typ g t

abbrev pub TypeStays : Type 0
TypeStays = (f : Name → Typ) (t : Typ) → ((x : Name) → occurs x t ≡ true → f x ≡ Schematic x) → put_typ f t ≡ t

abbrev pub VariablesStay : Type 0
VariablesStay = (f : Name → Typ) (t : Typ) → put_typ f t ≡ t → (x : Name) → occurs x t ≡ true → f x ≡ Schematic x

-- a variable of what is put comes from the type of some variable
abbrev pub VariablesComeFrom : Type 0
VariablesComeFrom = (f : Name → Typ) (t : Typ) (y : Name) → occurs y (put_typ f t) ≡ true → (x : Name) × ((occurs x t ≡ true) × (occurs y (f x) ≡ true))

-- from an idempotent map unification goes on to an idempotent one
abbrev pub SolvedIsIdempotent : Type 0
SolvedIsIdempotent = (s r : TyMap) (a b : Typ) → IsIdempotent (at s) → IsSolved s (put_typ (at s) a) (put_typ (at s) b) r → IsIdempotent (at r)

-- what comes to the same after the later map comes to the same after the earlier one
abbrev pub Absorbs : (Name → Typ) → TyMap → Type 0
Absorbs g s = (x : Name) → put_typ g (at s x) ≡ g x

abbrev pub SolvedIsAbsorbed : Type 0
SolvedIsAbsorbed = (s r : TyMap) (a b : Typ) (g : Name → Typ) → IsIdempotent (at s) → IsSolved s a b r → Absorbs g r → Absorbs g s
