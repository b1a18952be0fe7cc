-- The laws of variables, as statements (of this project).
use Rattle.std.specs.Prelude.{◌≡◌, ◌<◌, ◌≤◌, ◌+◌, ℕ, suc, Bool, true, false, ◌&&◌, List, ◌++◌, map, filter, max, nat_eq}
use Rattle.std.specs.List.{list_any}
use Rattle.iv_term.specs.declared.typ.Typ.{Typ}
use Rattle.iv_term.specs.declared.term.Term.{Term}
use Rattle.iv_term.specs.declared.term.Terms.{Terms}
use Rattle.iv_text.specs.declared.name.Name.{Name}
use Rattle.iv_term.specs.Term.{has_free, any_has_free}
use Rattle.iv_variables.specs.declared.kind.Kind.{Kind}
use Rattle.iv_variables.specs.declared.variable.Variable.{Variable}
use Rattle.iv_variables.specs.declared.variable.Variable.TheVariants.{Free}
use Rattle.iv_variables.specs.Variables.{typ_variables, variables, terms_variables}
use Rattle.iv_variables.specs.Firsts.{of_kind, stands, firsts, extended, next_of, next_number}
use Rattle.iv_variables.specs.Raised.{raised_typ, raised, raised_all, raised_variable}

-- what is raised has each variable raised in its place
abbrev pub RaisesTypes : Type 0
RaisesTypes = (r : ℕ) (a : Typ) → typ_variables (raised_typ r a) ≡ map (raised_variable r) (typ_variables a)

abbrev pub RaisesTerms : Type 0
RaisesTerms = (r : ℕ) (t : Term) → variables (raised r t) ≡ map (raised_variable r) (variables t)

abbrev pub RaisesLists : Type 0
RaisesLists = (r : ℕ) (ts : Terms) → terms_variables (raised_all r ts) ≡ map (raised_variable r) (terms_variables ts)

-- raising by 0 changes nothing, and raising twice adds
abbrev pub RaisesByNone : Type 0
RaisesByNone = (t : Term) → raised 0 t ≡ t

abbrev pub RaisesTwice : Type 0
RaisesTwice = (q r : ℕ) (t : Term) → raised r (raised q t) ≡ raised (q + r) t

-- a term without schematic variables and schematic type variables stays
abbrev pub RaisesNone : Type 0
RaisesNone = (r : ℕ) (t : Term) → next_number (variables t) ≡ 0 → raised r t ≡ t

abbrev pub RaisesNoType : Type 0
RaisesNoType = (r : ℕ) (a : Typ) → next_number (typ_variables a) ≡ 0 → raised_typ r a ≡ a

-- a raised variable stands exactly where the variable stood
abbrev pub StandsRaised : Type 0
StandsRaised = (r : ℕ) (v : Variable) (vs : List Variable) → stands (raised_variable r v) (map (raised_variable r) vs) ≡ stands v vs

-- the variables of a kind, each once, in order, are raised in their places
abbrev pub KindsRaised : Type 0
KindsRaised = (r : ℕ) (k : Kind) (vs : List Variable) → firsts (filter (of_kind k) (map (raised_variable r) vs)) ≡ map (raised_variable r) (firsts (filter (of_kind k) vs))

-- the number is above each that stands
abbrev pub NumberBounds : Type 0
NumberBounds = (v : Variable) (vs : List Variable) → stands v vs ≡ true → next_of v ≤ next_number vs

-- it is one more than the number of one that stands, where it isn't 0
abbrev pub NumberReached : Type 0
NumberReached = (vs : List Variable) (n : ℕ) → next_number vs ≡ suc n → list_any (λ v. nat_eq (next_of v) (suc n)) vs ≡ true

-- the number of two parts
abbrev pub NumberOfTwo : Type 0
NumberOfTwo = (vs ws : List Variable) → next_number (vs ++ ws) ≡ max (next_number vs) (next_number ws)

-- raising raises it, where it isn't 0
abbrev pub NumberRaised : Type 0
NumberRaised = (r n : ℕ) (vs : List Variable) → next_number vs ≡ suc n → next_number (map (raised_variable r) vs) ≡ suc n + r

abbrev pub NoneRaised : Type 0
NoneRaised = (r : ℕ) (vs : List Variable) → next_number vs ≡ 0 → next_number (map (raised_variable r) vs) ≡ 0

-- a schematic variable or schematic type variable with a number below r doesn't stand in what is raised by r
abbrev pub RaisedApart : Type 0
RaisedApart = (r : ℕ) (v : Variable) (vs : List Variable) → 0 < next_of v → next_of v ≤ r → stands v (map (raised_variable r) vs) ≡ false

-- what stands, stands once each in order
abbrev pub FirstsStand : Type 0
FirstsStand = (v : Variable) (vs : List Variable) → stands v (firsts vs) ≡ stands v vs

-- those of two parts: those of the first, and then what is new
abbrev pub FirstsOfTwo : Type 0
FirstsOfTwo = (vs ws : List Variable) → firsts (vs ++ ws) ≡ extended (firsts vs) ws

-- a variable stands among those of a kind exactly where it is of the kind and stands
abbrev pub KindStands : Type 0
KindStands = (k : Kind) (v : Variable) (vs : List Variable) → stands v (filter (of_kind k) vs) ≡ (of_kind k v && stands v vs)

-- a free variable stands exactly where `has_free` says so
abbrev pub FreeStands : Type 0
FreeStands = (x : Name) (a : Typ) (t : Term) → stands (Free x a) (variables t) ≡ has_free x a t

abbrev pub FreeStandsInOne : Type 0
FreeStandsInOne = (x : Name) (a : Typ) (ts : Terms) → stands (Free x a) (terms_variables ts) ≡ any_has_free x a ts
