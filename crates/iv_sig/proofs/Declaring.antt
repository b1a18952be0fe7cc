-- What the tests of declarations say.
use Rattle.std.proofs.Common.{◌≡◌, ℕ, Bool, true, false, not, ◌&&◌, List, Option, None, Some, is_some, refl}
use Rattle.iv_sig.specs.declared.fixity.Fixity.{Fixity}
use Rattle.iv_sig.specs.Fixity.{symbol_of, is_symbol, are_priorities, is_delimiter}
use Rattle.iv_sig.specs.Signature.{Signature, is_pure, can_add_notation}
use Rattle.iv_sig.specs.Kept.{IsNotation}
use Rattle.iv_sig.specs.Table.{look}

bad : {P : Type 0} → false ≡ true → P
bad h = absurd (let no : false ≡ true = h in cc)

parts : (a b c d e : Bool) → (a && not b && not c && d && e) ≡ true → (a ≡ true) × (b ≡ false) × (c ≡ false) × (d ≡ true) × (e ≡ true)
parts true false false true true h = (refl, refl, refl, refl, refl)
parts false b c d e h = bad h
parts true true c d e h = bad h
parts true false true d e h = bad h
parts true false false false e h = bad h
parts true false false true false h = bad h

none-is : (l : Option Fixity) → is_some l ≡ false → l ≡ None
none-is None h = refl
none-is (Some f) h = absurd (let no : true ≡ false = h in cc)

module _ (s : Signature) (n : List ℕ) (f : Fixity) (may : can_add_notation s n f ≡ true) where
  each : (is_some (look s.consts n) ≡ true) × (is_pure n ≡ false) × (is_some (look s.notations n) ≡ false) × (is_symbol (symbol_of f) ≡ true) × (are_priorities f ≡ true)
  each = parts (is_some (look s.consts n)) (is_pure n) (is_some (look s.notations n)) (is_symbol (symbol_of f)) (are_priorities f) may

  -- what may get a notation has none
  pub none-yet : look s.notations n ≡ None
  none-yet = none-is (look s.notations n) each.2

  pub is-notation : is_delimiter (symbol_of f) ≡ false → IsNotation s.consts n f
  is-notation other = record { declared = each.0; no_pure = each.1; symbol = each.3; no_delimiter = other; priorities = each.4 }
