-- Entries chained by the first character of their texts. Of this project.
use Rattle.std.specs.Prelude.{◌≡◌, ℕ, suc, ◌<◌, ◌≤◌, List, [], ◌∷◌, length, slice_get, map, Bool, true, false, nat_eq, Option, None, Some}
use Rattle.std.specs.Option.{option_map_or}
use Rattle.iv_grammar.specs.declared.sign.Sign.{Sign}
use Rattle.iv_grammar.specs.declared.symbols.Entry.{Entry}
use Rattle.iv_grammar.specs.Symbol.{Table}

-- whether a text begins with a character
abbrev pub begins : ℕ → List ℕ → Bool
begins c [] = false
begins c (d ∷ ds) = nat_eq d c

-- the text of an entry, and how many entries there were when the last before it was entered that begins with the same character
abbrev pub text_at : List Entry → ℕ → List ℕ
text_at es i = option_map_or (λ e. e.text) (slice_get es i) []

abbrev pub before_at : List Entry → ℕ → ℕ
before_at es i = option_map_or (λ e. e.before) (slice_get es i) 0

-- the last of the first n entries whose text begins with a character is the one before place j; none does where j is 0
pub record IsChain (es : List Entry) (c j n : ℕ) : Type 0 where
  pub within : j ≤ n
  pub at : (i : ℕ) → suc i ≡ j → begins c (text_at es i) ≡ true
  pub between : (i : ℕ) → j ≤ i → i < n → begins c (text_at es i) ≡ false

-- each entry leads to the last before it whose text begins with the same character
pub record AreChained (es : List Entry) : Type 0 where
  pub chain : (i c : ℕ) → i < length es → begins c (text_at es i) ≡ true → IsChain es c (before_at es i) i

-- and each character leads to the last entry whose text begins with it
pub record IsIndex (es : List Entry) (latest : ℕ → ℕ) : Type 0 where
  pub latest_of : (c : ℕ) → IsChain es c (latest c) (length es)
  pub chained : AreChained es

-- the entries without the chains
abbrev pub table_of : List Entry → Table
table_of es = map (λ e. (e.text, e.sign)) es

-- how many characters were found
abbrev pub count_of : Option (ℕ × Sign) → ℕ
count_of None = 0
count_of (Some f) = f.0

-- whether a text whose first character this is, if it has one, begins with a character
abbrev pub starts_by : Option ℕ → ℕ → Bool
starts_by None d = false
starts_by (Some c) d = nat_eq c d
