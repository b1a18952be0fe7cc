-- Types of terms, and which trees are terms: well typed, beta-normal and eta-short (Reference Manual, Pure).
use Rattle.std.specs.Prelude.{◌≡◌, ℕ, zero, suc, ◌<◌, false}
use Rattle.iv_term.specs.declared.typ.Typ.{Typ}
use Rattle.iv_term.specs.declared.typ.Types.{Types}
use Rattle.iv_term.specs.declared.typ.Typ.TheBlock.{Con, Nil}
use Rattle.iv_term.specs.declared.term.Head.{Head}
use Rattle.iv_term.specs.declared.term.Head.TheVariants.{Const, Free, Schematic, Bound}
use Rattle.iv_term.specs.declared.term.Term.{Term}
use Rattle.iv_term.specs.declared.term.Terms.{Terms}
use Rattle.iv_term.specs.declared.term.Term.TheBlock.{Spine, Nil as no_terms}
use Rattle.iv_term.specs.Typ.{prop, fun, ty_cons}
use Rattle.iv_term.specs.Term.{lam, tm_cons}
use Rattle.iv_hsub.specs.Index.{contracts}

-- the first and the second of some types, or d where there is none
abbrev pub first_typ : Typ → Types → Typ
first_typ d Nil = d
first_typ d (ty_cons a rest) = a

abbrev pub second_typ : Typ → Types → Typ
second_typ d Nil = d
second_typ d (ty_cons a rest) = first_typ d rest

-- the argument type and the result type of a type of functions; any other type itself
unfoldable pub dom : Typ → Typ
dom (Con c args) = first_typ (Con c args) args
dom a = a

unfoldable pub cod : Typ → Typ
cod (Con c args) = second_typ (Con c args) args
cod a = a

-- how many types there are, and the one at a place: `prop` where there is none
unfoldable pub types_len : Types → ℕ
types_len Nil = 0
types_len (ty_cons a rest) = suc (types_len rest)

unfoldable pub type_at : Types → ℕ → Typ
type_at Nil n = prop
type_at (ty_cons a rest) zero = a
type_at (ty_cons a rest) (suc n) = type_at rest n

-- some types, and others outside of them
unfoldable pub join : Types → Types → Types
join Nil outer = outer
join (ty_cons a inner) outer = ty_cons a (join inner outer)

-- the type of a head, where the bounds are the types of the bound variables, the innermost first
abbrev pub head_type : Types → Head → Typ
head_type bounds (Const c a) = a
head_type bounds (Free x a) = a
head_type bounds (Schematic x a) = a
head_type bounds (Bound n) = type_at bounds n

-- the type of what a head of type a is at some arguments
unfoldable pub result_type : Typ → Terms → Typ
result_type a no_terms = a
result_type a (tm_cons t ts) = result_type (cod a) ts

-- the type of a term
unfoldable pub type_of : Types → Term → Typ
type_of bounds (lam a b) = fun a (type_of (ty_cons a bounds) b)
type_of bounds (Spine h ts) = result_type (head_type bounds h) ts

-- each bound variable has a type
abbrev pub IsHead : Types → Head → Type 0
IsHead bounds (Bound n) = n < types_len bounds
IsHead bounds h = Unit {0}

abbrev mutual
  -- a tree is a term: each argument has the type that its place asks for, and no abstraction can be contracted;
  -- a head is never an abstraction, so the tree is beta-normal
  pub IsTerm : Types → Term → Type 0
  IsTerm bounds (lam a b) = IsTerm (ty_cons a bounds) b × (contracts b ≡ false)
  IsTerm bounds (Spine h ts) = IsHead bounds h × AreArgs bounds (head_type bounds h) ts

  -- some terms are arguments for what has type a
  pub AreArgs : Types → Typ → Terms → Type 0
  AreArgs bounds a no_terms = Unit {0}
  AreArgs bounds a (tm_cons t ts) = (a ≡ fun (type_of bounds t) (cod a)) × (IsTerm bounds t × AreArgs bounds (cod a) ts)

-- a tree is a term of type a
abbrev pub HasType : Types → Typ → Term → Type 0
HasType bounds a t = IsTerm bounds t × (type_of bounds t ≡ a)
