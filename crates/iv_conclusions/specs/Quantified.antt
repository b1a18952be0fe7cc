-- Quantified propositions (Reference Manual, Pure): what !! binds over, and the term that is one.
use Rattle.std.specs.Prelude.{◌≡◌}
use Rattle.iv_term.specs.declared.typ.Typ.{Typ}
use Rattle.iv_term.specs.declared.term.Term.{Term}
use Rattle.iv_hsub.specs.Typing.{dom}
use Rattle.iv_rules.specs.Equality.{side_type, all, predicate}

-- the type of the predicate, which is the head's argument
abbrev pub predicate_type : Term → Typ
predicate_type t = side_type t

-- the type that !! binds over
abbrev pub domain : Term → Typ
domain t = dom (predicate_type t)

-- a term is !! at a predicate
abbrev pub IsQuantified : Term → Type 0
IsQuantified t = t ≡ all (domain t) (predicate t)
