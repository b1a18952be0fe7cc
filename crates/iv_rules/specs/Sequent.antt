-- Sequents: hypotheses without repeats, and the proposition that follows from them (Reference Manual, primitive inferences).
use Rattle.std.specs.Prelude.{◌≡◌}
use Rattle.iv_term.specs.declared.typ.Typ.TheBlock.{Nil as no_types}
use Rattle.iv_term.specs.declared.term.Term.{Term}
use Rattle.iv_term.specs.declared.term.Terms.{Terms}
use Rattle.iv_term.specs.declared.term.Term.TheBlock.{Nil}
use Rattle.iv_term.specs.Typ as types
use Rattle.iv_term.specs.Term.{tm_cons}
use Rattle.iv_term.specs.Hyps.{IsDistinctTerms}
use Rattle.iv_hsub.specs.Typing.{IsTerm, HasType}

pub record Sequent : Type 0 where
  pub hyps : Terms
  pub prop : Term

-- hs |- p
abbrev pub sequent : Terms → Term → Sequent
sequent hs p = record { hyps = hs; prop = p }

-- a proposition that follows from nothing
abbrev pub closed : Term → Sequent
closed p = record { hyps = Nil; prop = p }

-- a term without loose indices; one of type prop; several of them
abbrev pub IsClosed : Term → Type 0
IsClosed t = IsTerm no_types t

abbrev pub IsProp : Term → Type 0
IsProp t = HasType no_types types.prop t

unfoldable pub AreProps : Terms → Type 0
AreProps Nil = Unit {0}
AreProps (tm_cons t ts) = IsProp t × AreProps ts

-- all of a sequent is propositions, and no hypothesis stands in it twice
pub record IsSequent (r : Sequent) : Type 0 where
  pub hyps : AreProps r.hyps
  pub distinct : IsDistinctTerms r.hyps
  pub prop : IsProp r.prop

-- r is the conclusion c, which is a sequent
abbrev pub Gives : Sequent → Sequent → Type 0
Gives c r = (r ≡ c) × IsSequent r
