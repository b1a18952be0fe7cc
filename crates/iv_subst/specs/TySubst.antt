-- Types put for schematic variables, all at once (Robinson 1965, substitutions).
use Rattle.std.specs.Prelude.{◌≡◌, Bool, true, false, ◌||◌, if◌then◌else◌, List, [], ◌∷◌, ◌++◌, Option, Some, None}
use Rattle.iv_text.specs.declared.name.Name.{Name}
use Rattle.iv_term.specs.declared.typ.Typ.{Typ}
use Rattle.iv_term.specs.declared.typ.Types.{Types}
use Rattle.iv_term.specs.declared.typ.Typ.TheBlock.{Con, Fixed, Schematic, Nil}
use Rattle.iv_term.specs.Typ.{ty_cons}
use Rattle.iv_text.specs.Name.{same_name}

unfoldable mutual
  -- the type with f x put for each schematic variable x
  pub put_typ : (Name → Typ) → Typ → Typ
  put_typ f (Con c ts) = Con c (put_typs f ts)
  put_typ f (Fixed a) = Fixed a
  put_typ f (Schematic x) = f x

  pub put_typs : (Name → Typ) → Types → Types
  put_typs f Nil = Nil
  put_typs f (ty_cons t ts) = ty_cons (put_typ f t) (put_typs f ts)

-- f and then g
abbrev pub then_put : (Name → Typ) → (Name → Typ) → Name → Typ
then_put f g x = put_typ g (f x)

-- t for x alone
unfoldable pub single : Name → Typ → Name → Typ
single x t y = if same_name y x then t else Schematic y

unfoldable mutual
  -- whether x stands in a type
  pub occurs : Name → Typ → Bool
  occurs x (Con c ts) = occurs_any x ts
  occurs x (Fixed a) = false
  occurs x (Schematic y) = same_name x y

  pub occurs_any : Name → Types → Bool
  occurs_any x Nil = false
  occurs_any x (ty_cons t ts) = occurs x t || occurs_any x ts

-- a finite map from schematic variables to types; the first entry of a variable counts
abbrev pub TyMap : Type 0
TyMap = List (Name × Typ)

-- the entry of a variable
unfoldable pub seek : TyMap → Name → Option Typ
seek [] y = None
seek (e ∷ s) y = if same_name y e.0 then Some e.1 else seek s y

-- what a map puts for a variable: the variable itself where it has no entry
unfoldable pub at : TyMap → Name → Typ
at [] y = Schematic y
at (e ∷ s) y = if same_name y e.0 then e.1 else at s y

-- the map with f put in each of its values
unfoldable pub under : (Name → Typ) → TyMap → TyMap
under f [] = []
under f (e ∷ s) = (e.0, put_typ f e.1) ∷ under f s

-- whether a variable has an entry
unfoldable pub has : TyMap → Name → Bool
has [] y = false
has (e ∷ s) y = if same_name y e.0 then true else has s y

-- the entries of r whose variables have none in s
unfoldable pub unhidden : TyMap → TyMap → TyMap
unhidden s [] = []
unhidden s (e ∷ r) = if has s e.0 then unhidden s r else e ∷ unhidden s r

-- the map of s and then r, both finite
unfoldable pub composed : TyMap → TyMap → TyMap
composed s r = under (at r) s ++ unhidden s r

-- s and then t for x
unfoldable pub assign : TyMap → Name → Typ → TyMap
assign s x t = under (single x t) s ++ (x, t) ∷ []

-- no variable that has an entry stands in a value
abbrev pub IsIdempotent : (Name → Typ) → Type 0
IsIdempotent f = (x : Name) → put_typ f (f x) ≡ f x
