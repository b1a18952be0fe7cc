-- Types put for the type variables of a type and of a term, by a function that is asked at variables alone (Reference Manual,
-- Pure: instantiation).
use Rattle.iv_term.specs.declared.typ.Typ.{Typ}
use Rattle.iv_term.specs.declared.typ.Types.{Types}
use Rattle.iv_term.specs.declared.typ.Typ.TheBlock.{Con, Fixed, Schematic as Variable, Nil as no_types}
use Rattle.iv_term.specs.declared.term.Head.{Head}
use Rattle.iv_term.specs.declared.term.Head.TheVariants.{Const, Free, Schematic, Bound}
use Rattle.iv_term.specs.declared.term.Term.{Term}
use Rattle.iv_term.specs.declared.term.Terms.{Terms}
use Rattle.iv_term.specs.declared.term.Term.TheBlock.{Spine, Nil}
use Rattle.iv_term.specs.Typ.{ty_cons}
use Rattle.iv_term.specs.Term.{lam, tm_cons}

unfoldable mutual
  -- a type with f's types in the place of its variables, fixed and schematic
  pub map_typ : (Typ → Typ) → Typ → Typ
  map_typ f (Con c ts) = Con c (map_typs f ts)
  map_typ f (Fixed a) = f (Fixed a)
  map_typ f (Variable x) = f (Variable x)

  pub map_typs : (Typ → Typ) → Types → Types
  map_typs f no_types = no_types
  map_typs f (ty_cons t ts) = ty_cons (map_typ f t) (map_typs f ts)

abbrev pub retype_head : (Typ → Typ) → Head → Head
retype_head f (Const c a) = Const c (map_typ f a)
retype_head f (Free x a) = Free x (map_typ f a)
retype_head f (Schematic x a) = Schematic x (map_typ f a)
retype_head f (Bound n) = Bound n

unfoldable mutual
  -- a term with f's types in the place of the variables in its types
  pub retype : (Typ → Typ) → Term → Term
  retype f (lam a b) = lam (map_typ f a) (retype f b)
  retype f (Spine h ts) = Spine (retype_head f h) (retype_all f ts)

  pub retype_all : (Typ → Typ) → Terms → Terms
  retype_all f Nil = Nil
  retype_all f (tm_cons t ts) = tm_cons (retype f t) (retype_all f ts)
