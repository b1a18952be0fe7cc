-- What holds of each signature, since declarations alone make it (of this project).
use Rattle.std.specs.Prelude.{◌≡◌, true, false, ℕ, List, ◌++◌, None, Some, is_some, All}
use Rattle.std.specs.List.{IsDistinct}
use Rattle.std.specs.Map.{keys_of}
use Rattle.std.specs.Str.{bytes_eq}
use Rattle.iv_term.specs.declared.typ.Typ.{Typ}
use Rattle.iv_sig.specs.declared.fixity.Fixity.{Fixity}
use Rattle.iv_sig.specs.Conditions.{IsJudgmentType, IsAxiom}
use Rattle.iv_sig.specs.Fixity.{symbol_of, is_symbol, are_priorities, is_delimiter}
use Rattle.iv_sig.specs.Signature.{Signature, pure_types, pure_consts, is_pure, by_symbol}
use Rattle.iv_sig.specs.Table.{look}

-- a list begins with another
abbrev pub BeginsWith : {X : Type 0} → List X → List X → Type 0
BeginsWith {X} xs ys = (more : List X) × (xs ≡ ys ++ more)

-- the judgment is a constant of a judgment's type
abbrev pub IsJudgment : List (List ℕ × Typ) → List ℕ → Type 0
IsJudgment consts j = (a : Typ) × ((look consts j ≡ Some a) × IsJudgmentType a)

-- a notation is of a constant, not of Pure, and its symbol and priorities are in range
pub record IsNotation (consts : List (List ℕ × Typ)) (n : List ℕ) (f : Fixity) : Type 0 where
  pub declared : is_some (look consts n) ≡ true
  pub no_pure : is_pure n ≡ false
  pub symbol : is_symbol (symbol_of f) ≡ true
  pub no_delimiter : is_delimiter (symbol_of f) ≡ false
  pub priorities : are_priorities f ≡ true

pub record IsSignature (s : Signature) : Type 0 where
  pub pure_types_first : BeginsWith s.types pure_types
  pub pure_consts_first : BeginsWith s.consts pure_consts
  -- no name is that of a type and of a constant
  pub apart : (n : List ℕ) → is_some (look s.types n) ≡ true → look s.consts n ≡ None
  pub notations : All (λ e. IsNotation s.consts e.0 e.1) s.notations
  pub judgment : (j : List ℕ) → s.judgment ≡ Some j → IsJudgment s.consts j
  pub axioms : All (λ e. IsAxiom e.1) s.axioms

-- no two entries have one name, and no two notations one symbol
pub record NamesDiffer (s : Signature) : Type 0 where
  pub types : IsDistinct bytes_eq (keys_of s.types)
  pub consts : IsDistinct bytes_eq (keys_of s.consts)
  pub notations : IsDistinct bytes_eq (keys_of s.notations)
  pub symbols : IsDistinct bytes_eq (keys_of (by_symbol s.notations))
  pub axioms : IsDistinct bytes_eq (keys_of s.axioms)
