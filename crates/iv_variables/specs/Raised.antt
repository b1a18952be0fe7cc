-- All schematic variables and schematic type variables with larger numbers (of this project, after Isabelle's incr_indexes).
use Rattle.std.specs.Prelude.{ℕ, ◌+◌}
use Rattle.iv_text.specs.declared.name.Name.{Name}
use Rattle.iv_term.specs.declared.typ.Typ.{Typ}
use Rattle.iv_term.specs.declared.typ.Types.{Types}
use Rattle.iv_term.specs.declared.typ.Typ.TheBlock.{Con, Fixed, Schematic as TypeVariable, Nil as no_types}
use Rattle.iv_term.specs.declared.term.Head.{Head}
use Rattle.iv_term.specs.declared.term.Head.TheVariants.{Const, Free as FreeHead, Schematic as SchematicHead, Bound}
use Rattle.iv_term.specs.declared.term.Term.{Term}
use Rattle.iv_term.specs.declared.term.Terms.{Terms}
use Rattle.iv_term.specs.declared.term.Term.TheBlock.{Spine, Nil}
use Rattle.iv_term.specs.Typ.{ty_cons}
use Rattle.iv_term.specs.Term.{lam, tm_cons}
use Rattle.iv_variables.specs.declared.variable.Variable.{Variable}
use Rattle.iv_variables.specs.declared.variable.Variable.TheVariants.{FixedType, SchematicType, Free, Schematic}

-- a name with a larger number
abbrev pub raised_name : ℕ → Name → Name
raised_name r x = record { text = x.text; number = x.number + r }

unfoldable mutual
  -- a type with the numbers of its schematic type variables raised by r
  pub raised_typ : ℕ → Typ → Typ
  raised_typ r (Con c ts) = Con c (raised_typs r ts)
  raised_typ r (Fixed a) = Fixed a
  raised_typ r (TypeVariable x) = TypeVariable (raised_name r x)

  pub raised_typs : ℕ → Types → Types
  raised_typs r no_types = no_types
  raised_typs r (ty_cons t ts) = ty_cons (raised_typ r t) (raised_typs r ts)

-- a head with all numbers raised, those in its type too
abbrev pub raised_head : ℕ → Head → Head
raised_head r (Const c a) = Const c (raised_typ r a)
raised_head r (FreeHead x a) = FreeHead x (raised_typ r a)
raised_head r (SchematicHead x a) = SchematicHead (raised_name r x) (raised_typ r a)
raised_head r (Bound n) = Bound n

unfoldable mutual
  -- a term with all numbers raised, in types and heads
  pub raised : ℕ → Term → Term
  raised r (lam a b) = lam (raised_typ r a) (raised r b)
  raised r (Spine h ts) = Spine (raised_head r h) (raised_all r ts)

  pub raised_all : ℕ → Terms → Terms
  raised_all r Nil = Nil
  raised_all r (tm_cons t ts) = tm_cons (raised r t) (raised_all r ts)

-- a variable with its number raised, and those in its type
abbrev pub raised_variable : ℕ → Variable → Variable
raised_variable r (FixedType a) = FixedType a
raised_variable r (SchematicType x) = SchematicType (raised_name r x)
raised_variable r (Free x a) = Free x (raised_typ r a)
raised_variable r (Schematic x a) = Schematic (raised_name r x) (raised_typ r a)
