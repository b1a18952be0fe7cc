-- Assignments as unification finds them, one after the other, none of them put in the earlier ones (triangular form; Baader
-- and Snyder 2001, unification theory).
use Rattle.std.specs.Prelude.{◌≡◌, ◌<◌, ℕ, zero, suc, false, if◌then◌else◌, List, [], ◌∷◌, length, Option, Some, None}
use Rattle.std.specs.List.{AllByRecursion}
use Rattle.iv_text.specs.declared.name.Name.{Name}
use Rattle.iv_term.specs.declared.typ.Typ.{Typ}
use Rattle.iv_term.specs.declared.typ.Typ.TheBlock.{Con, Fixed, Schematic}
use Rattle.iv_text.specs.Name.{same_name}
use Rattle.iv_subst.specs.TySubst.{put_typ, occurs, TyMap, seek, at, under, assign, IsIdempotent}

-- s and then each assignment
unfoldable pub grown : TyMap → TyMap → TyMap
grown s [] = s
grown s (e ∷ es) = grown (assign s e.0 (put_typ (at s) e.1)) es

-- the map that assignments stand for, applied out
abbrev pub solved : TyMap → TyMap
solved es = grown [] es

-- how far a variable's assignment is from the end
unfoldable pub rank : TyMap → Name → ℕ
rank [] y = zero
rank (e ∷ es) y = if same_name y e.0 then suc (length es) else rank es y

-- what holds of all assignments that were found
pub record AreSolved (es : TyMap) : Type 0 where
  -- each value under the map is its assigned type under the map
  pub fixed : solved es ≡ under (at (solved es)) es
  -- a variable that stands for another is assigned before it
  pub linked : (y z : Name) → seek es y ≡ Some (Schematic z) → rank es z < rank es y
  pub clean : IsIdempotent (at (solved es))

-- what a type is assigned, where it is a variable with an assignment
unfoldable pub link : TyMap → Typ → Option Typ
link es (Con c ts) = None
link es (Fixed a) = None
link es (Schematic y) = seek es y

-- a type that isn't a variable with an assignment
abbrev pub IsHead : TyMap → Typ → Type 0
IsHead es t = (y : Name) → t ≡ Schematic y → seek es y ≡ None

-- x stands in none of these variables under the assignments
unfoldable pub AreFree : TyMap → Name → List Name → Type 0
AreFree es x ys = AllByRecursion (λ y. occurs x (put_typ (at (solved es)) (Schematic y)) ≡ false) ys
