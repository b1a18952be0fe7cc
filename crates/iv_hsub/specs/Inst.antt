-- Terms without loose indices put for free and schematic variables, all at once and by hereditary substitution (Reference
-- Manual, Pure: instantiation; Watkins, Cervesato, Pfenning and Walker 2002), by a function that is asked at variables alone.
use Rattle.std.specs.Prelude.{Option, Some, None}
use Rattle.iv_term.specs.declared.typ.Typ.{Typ}
use Rattle.iv_term.specs.declared.typ.Typ.TheBlock.{Nil as no_types}
use Rattle.iv_term.specs.declared.term.Head.{Head}
use Rattle.iv_term.specs.declared.term.Head.TheVariants.{Free, Schematic}
use Rattle.iv_term.specs.declared.term.Term.{Term}
use Rattle.iv_term.specs.declared.term.Terms.{Terms}
use Rattle.iv_term.specs.declared.term.Term.TheBlock.{Spine, Nil}
use Rattle.iv_term.specs.Term.{lam, tm_cons}
use Rattle.iv_hsub.specs.Typing.{HasType}
use Rattle.iv_hsub.specs.Index.{eta}
use Rattle.iv_hsub.specs.Hsub.{happ}

-- a variable of type a at arguments, where a value may be put for it
abbrev pub use_value : Option Term → Head → Typ → Terms → Term
use_value None h a ts = Spine h ts
use_value (Some v) h a ts = happ a v ts

abbrev pub inst_head : (Head → Option Term) → Head → Terms → Term
inst_head values (Free x a) ts = use_value (values (Free x a)) (Free x a) a ts
inst_head values (Schematic x a) ts = use_value (values (Schematic x a)) (Schematic x a) a ts
inst_head values h ts = Spine h ts

unfoldable mutual
  -- a term with values put for its variables
  pub inst : (Head → Option Term) → Term → Term
  inst values (lam a b) = eta a (inst values b)
  inst values (Spine h ts) = inst_head values h (inst_all values ts)

  pub inst_all : (Head → Option Term) → Terms → Terms
  inst_all values Nil = Nil
  inst_all values (tm_cons t ts) = tm_cons (inst values t) (inst_all values ts)

-- what holds of a head and its type, if it is a variable
abbrev pub HeadVars : (Head → Typ → Type 0) → Head → Type 0
HeadVars P (Free x a) = P (Free x a) a
HeadVars P (Schematic x a) = P (Schematic x a) a
HeadVars P h = Unit {0}

abbrev mutual
  -- what holds of each variable in a term, with its type
  pub Vars : (Head → Typ → Type 0) → Term → Type 0
  Vars P (lam a b) = Vars P b
  Vars P (Spine h ts) = HeadVars P h × AllVars P ts

  pub AllVars : (Head → Typ → Type 0) → Terms → Type 0
  AllVars P Nil = Unit {0}
  AllVars P (tm_cons t ts) = Vars P t × AllVars P ts

-- a value, if there is one, is a term of a type, and has no loose index
abbrev pub Fits : Option Term → Typ → Type 0
Fits None a = Unit {0}
Fits (Some v) a = HasType no_types a v
