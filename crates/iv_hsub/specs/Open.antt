-- Terms with loose indices (of this project).
use Rattle.std.specs.Prelude.{◌≡◌, false}
use Rattle.iv_term.specs.declared.typ.Types.{Types}
use Rattle.iv_term.specs.declared.term.Term.{Term}
use Rattle.iv_term.specs.declared.term.Terms.{Terms}
use Rattle.iv_term.specs.declared.term.Term.TheBlock.{Spine, Nil}
use Rattle.iv_term.specs.Term.{lam, tm_cons}
use Rattle.iv_hsub.specs.Typing.{IsTerm}
use Rattle.iv_hsub.specs.Index.{contracts}

-- a tree is a term, where its loose indices have some types
abbrev pub IsOpenTerm : Term → Type 0
IsOpenTerm t = (bounds : Types) × IsTerm bounds t

-- each of some trees is one
abbrev pub AreOpenTerms : Terms → Type 0
AreOpenTerms Nil = Unit {0}
AreOpenTerms (tm_cons t ts) = IsOpenTerm t × AreOpenTerms ts

abbrev mutual
  -- no abstraction in a term can be contracted
  pub IsShort : Term → Type 0
  IsShort (lam a b) = IsShort b × (contracts b ≡ false)
  IsShort (Spine h ts) = AreShort ts

  pub AreShort : Terms → Type 0
  AreShort Nil = Unit {0}
  AreShort (tm_cons t ts) = IsShort t × AreShort ts
