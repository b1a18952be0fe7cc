-- Simple types (Reference Manual, Pure).
use Rattle.std.specs.Prelude.{◌≡◌, Bool, true, false, ◌&&◌, codes, refl}
use Rattle.std.specs.Str.{bytes_eq}
use denote.Hole.Carrier.{hidden}
use Rattle.iv_text.specs.Name.{same_name}
use Rattle.iv_term.specs.declared.typ.Typ.{Typ}
use Rattle.iv_term.specs.declared.typ.Types.{Types}
use Rattle.iv_term.specs.declared.typ.Types.TheVariants.{Cons}
use Rattle.iv_term.specs.declared.typ.Typ.TheBlock.{Con, Fixed, Schematic, Nil, Cons', end_of-Typ, more_of-Typ, end_of-Types, more_of-Types, shape-the_row-Typ-0, hidden-the_row-Typ-0, shape-the_row-Types-1, hidden-the_row-Types-1}

-- a list of types with one in front: as a pattern, and as what it is
pattern abbrev pub ty_cons : Typ → Types → Types
ty_cons t ts = Cons' tt (more_of-Typ t end_of-Typ) tt (more_of-Types ts end_of-Types)

pub cons_is : (t : Typ) (ts : Types) → Cons t ts ≡ ty_cons t ts
unfolding shape-the_row-Typ-0 hidden-the_row-Typ-0 shape-the_row-Types-1 hidden-the_row-Types-1 hidden
cons_is t ts = refl

-- the type of propositions
abbrev pub prop : Typ
prop = Con (codes "prop") Nil

-- the type of functions from a to b
abbrev pub fun : Typ → Typ → Typ
fun a b = Con (codes "fun") (ty_cons a (ty_cons b Nil))

unfoldable mutual
  -- whether two types are the same
  pub same_typ : Typ → Typ → Bool
  same_typ (Con c ts) (Con d us) = bytes_eq c d && same_typs ts us
  same_typ (Fixed a) (Fixed b) = bytes_eq a b
  same_typ (Schematic x) (Schematic y) = same_name x y
  same_typ _ _ = false

  pub same_typs : Types → Types → Bool
  same_typs Nil Nil = true
  same_typs (ty_cons t ts) (ty_cons u us) = same_typ t u && same_typs ts us
  same_typs _ _ = false
