-- Pairs of types that are left to be made equal, and one step of unification on them (Robinson 1965, with the disagreement pairs
-- found by a list that is worked off).
use Rattle.std.specs.Prelude.{◌≡◌, ◌+◌, ℕ, suc, if◌then◌else◌, List, [], ◌∷◌, ◌++◌, Option, Some, None}
use Rattle.std.specs.Str.{bytes_eq}
use Rattle.iv_text.specs.declared.name.Name.{Name}
use Rattle.iv_term.specs.declared.typ.Typ.{Typ}
use Rattle.iv_term.specs.declared.typ.Types.{Types}
use Rattle.iv_term.specs.declared.typ.Typ.TheBlock.{Con, Fixed, Schematic, Nil}
use Rattle.iv_term.specs.Typ.{ty_cons}
use Rattle.iv_text.specs.Name.{same_name}
use Rattle.iv_subst.specs.declared.pairs.Step.{Step}
use Rattle.iv_subst.specs.declared.pairs.Step.TheVariants.{Done, Open, Clash, Assign}
use Rattle.iv_subst.specs.TySubst.{put_typ, put_typs, then_put, TyMap, seek, at}
use Rattle.iv_subst.specs.Unifier.{Difference, nowhere, variable, or_then, differ_all}
use Rattle.iv_subst.specs.Solved.{solved, IsHead}

-- how many nodes a type has
unfoldable mutual
  pub size : Typ → ℕ
  size (Con c ts) = suc (size_all ts)
  size (Fixed a) = 1
  size (Schematic x) = 1

  pub size_all : Types → ℕ
  size_all Nil = 0
  size_all (ty_cons t ts) = suc (size t + size_all ts)

-- pairs of lists of types to be made equal, the last first

abbrev pub Pairs : Type 0
Pairs = List (Types × Types)

-- the first difference of the pairs under f
unfoldable pub pairs_differ : (Name → Typ) → Pairs → Difference
pairs_differ f [] = nowhere
pairs_differ f (p ∷ ps) = or_then (pairs_differ f ps) (differ_all (put_typs f p.0) (put_typs f p.1))

-- what was found: nothing, or a variable without assignment and a type for it; g makes them equal
abbrev pub Meets : (Name → Typ) → TyMap → Option (Name × Typ) → Type 0
Meets g s None = Unit {0}
Meets g s (Some p) = g p.0 ≡ put_typ g (put_typ (at s) p.1)

abbrev pub IsFound : TyMap → Pairs → Option (Name × Typ) → Type 0
IsFound es ps None = Unit {0}
IsFound es ps (Some p) = (pairs_differ (at (solved es)) ps ≡ variable p.0 (put_typ (at (solved es)) p.1)) × (seek es p.0 ≡ None) × IsHead es p.1

-- the pairs ps were gone through as far as qs, where something may be found: what is found is the first difference, and each g
-- that makes it equal leaves ps and qs with the same difference
pub record IsStep (es : TyMap) (ps qs : Pairs) (found : Option (Name × Typ)) : Type 0 where
  pub differs : IsFound es ps found
  pub leaves : (g : Name → Typ) → Meets g (solved es) found → pairs_differ (then_put (at (solved es)) g) ps ≡ pairs_differ (then_put (at (solved es)) g) qs

-- how much there is to go through
unfoldable pub weight : (Name → Typ) → Pairs → ℕ
weight f [] = 0
weight f (p ∷ ps) = suc (size_all (put_typs f p.0)) + weight f ps

-- what two heads ask for
unfoldable pub step_of : Typ → Typ → Step
step_of (Con c ts) (Con d us) = if bytes_eq c d then Open ts us else Clash
step_of (Con c ts) (Fixed b) = Clash
step_of (Con c ts) (Schematic y) = Assign y (Con c ts)
step_of (Fixed a) (Con d us) = Clash
step_of (Fixed a) (Fixed b) = if bytes_eq a b then Done else Clash
step_of (Fixed a) (Schematic y) = Assign y (Fixed a)
step_of (Schematic x) (Con d us) = Assign x (Con d us)
step_of (Schematic x) (Fixed b) = Assign x (Fixed b)
step_of (Schematic x) (Schematic y) = if same_name x y then Done else Assign x (Schematic y)

-- the pairs behind a step, and what it assigns
abbrev pub opened : Step → Pairs → Pairs
opened (Open ts us) ps = ps ++ (ts, us) ∷ []
opened _ ps = ps

abbrev pub assigned_by : Step → Option (Name × Typ)
assigned_by (Assign x t) = Some (x, t)
assigned_by _ = None
