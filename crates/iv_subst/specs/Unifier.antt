-- Unification of types (Robinson 1965; most general unifiers as in Martelli and Montanari 1982).
use Rattle.std.specs.Prelude.{false, ◌≡◌, ℕ, zero, suc, if◌then◌else◌, List, [], ◌∷◌, ◌++◌, length, Option, Some, None}
use Rattle.std.specs.Str.{bytes_eq}
use Rattle.iv_text.specs.declared.name.Name.{Name}
use Rattle.iv_term.specs.declared.typ.Typ.{Typ}
use Rattle.iv_term.specs.declared.typ.Types.{Types}
use Rattle.iv_term.specs.declared.typ.Typ.TheBlock.{Con, Fixed, Schematic, Nil}
use Rattle.iv_term.specs.Typ.{ty_cons}
use Rattle.iv_text.specs.Name.{same_name}
use Rattle.iv_subst.specs.TySubst.{put_typ, single, occurs, TyMap, at, composed, assign, IsIdempotent}

-- f makes both types equal
abbrev pub IsUnifier : (Name → Typ) → Typ → Typ → Type 0
IsUnifier f a b = put_typ f a ≡ put_typ f b

-- g is f and then some h
abbrev pub IsMoreGeneral : (Name → Typ) → (Name → Typ) → Type 0
IsMoreGeneral f g = (h : Name → Typ) × ((x : Name) → g x ≡ put_typ h (f x))

-- a unifier that is more general than each, idempotent, and of variables of both types alone
pub record IsMostGeneral (f : Name → Typ) (a b : Typ) : Type 0 where
  pub unifier : IsUnifier f a b
  pub general : (g : Name → Typ) → IsUnifier g a b → IsMoreGeneral f g
  -- each unifier is f and then that unifier itself
  pub absorbed : (g : Name → Typ) → IsUnifier g a b → (x : Name) → put_typ g (f x) ≡ g x
  pub idempotent : IsIdempotent f
  -- a variable of neither type stays, and stands in what is put for no other
  pub stays : (y : Name) → occurs y a ≡ false → occurs y b ≡ false → f y ≡ Schematic y
  pub no_new : (y : Name) → occurs y a ≡ false → occurs y b ≡ false → (x : Name) → same_name y x ≡ false → occurs y (f x) ≡ false

-- r is s and then a most general unifier of two types
pub record IsSolved (s : TyMap) (a b : Typ) (r : TyMap) : Type 0 where
  pub by_map : Name → Typ
  pub after : (x : Name) → at r x ≡ put_typ by_map (at s x)
  pub most_general : IsMostGeneral by_map a b

-- where two types first differ, from left to right and depth first: nowhere, at two that no substitution makes equal, or
-- at a variable against a type
pub data Difference : Type 0 where
  nowhere : Difference
  clash : Difference
  variable : Name → Typ → Difference

abbrev pub or_then : Difference → Difference → Difference
or_then nowhere d = d
or_then clash d = clash
or_then (variable x t) d = variable x t

unfoldable mutual
  pub differ : Typ → Typ → Difference
  differ (Con c ts) (Con d us) = if bytes_eq c d then differ_all ts us else clash
  differ (Con c ts) (Fixed b) = clash
  differ (Con c ts) (Schematic y) = variable y (Con c ts)
  differ (Fixed a) (Con d us) = clash
  differ (Fixed a) (Fixed b) = if bytes_eq a b then nowhere else clash
  differ (Fixed a) (Schematic y) = variable y (Fixed a)
  differ (Schematic x) (Con d us) = variable x (Con d us)
  differ (Schematic x) (Fixed b) = variable x (Fixed b)
  differ (Schematic x) (Schematic y) = if same_name x y then nowhere else variable x (Schematic y)

  pub differ_all : Types → Types → Difference
  differ_all Nil Nil = nowhere
  differ_all Nil (ty_cons u us) = clash
  differ_all (ty_cons t ts) Nil = clash
  differ_all (ty_cons t ts) (ty_cons u us) = or_then (differ t u) (differ_all ts us)

unfoldable mutual
  -- the variables of a type, each as often as it stands there
  pub variables : Typ → List Name
  variables (Con c ts) = variables_all ts
  variables (Fixed a) = []
  variables (Schematic x) = x ∷ []

  pub variables_all : Types → List Name
  variables_all Nil = []
  variables_all (ty_cons t ts) = variables t ++ variables_all ts

-- one turn: the first difference is put away, and the next turn has both types under what was put
unfoldable pub turn : (TyMap → Typ → Typ → Option TyMap) → TyMap → Typ → Typ → Difference → Option TyMap
turn next s a b nowhere = Some s
turn next s a b clash = None
turn next s a b (variable x t) = if occurs x t then None else next (assign s x t) (put_typ (single x t) a) (put_typ (single x t) b)

abbrev pub stuck : TyMap → Typ → Typ → Option TyMap
stuck s a b = None

-- at most n variables are put away
unfoldable pub solve : ℕ → TyMap → Typ → Typ → Option TyMap
solve zero s a b = turn stuck s a b (differ a b)
solve (suc n) s a b = turn (solve n) s a b (differ a b)

-- s and then what makes both types under s equal; as many turns as variables stand there are enough
unfoldable pub unified : Typ → Typ → TyMap → Option TyMap
unified a b s = solve (length (variables (put_typ (at s) a) ++ variables (put_typ (at s) b))) s (put_typ (at s) a) (put_typ (at s) b)

-- the same for any map s, also one whose values hold variables of its own
unfoldable pub followed : TyMap → Option TyMap → Option TyMap
followed s None = None
followed s (Some r) = Some (composed s r)

abbrev pub unified_under : Typ → Typ → TyMap → Option TyMap
unified_under a b s = followed s (unified (put_typ (at s) a) (put_typ (at s) b) [])
