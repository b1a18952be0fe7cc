-- Symbols in a text. After the inner syntax of Isabelle's Reference Manual, in a profile of this project.
use Rattle.std.specs.Prelude.{◌≡◌, ℕ, ◌<◌, ◌≤◌, List, length, take, Option, None, Some}
use Rattle.std.specs.Map.{lookup}
use Rattle.std.specs.Str.{bytes_eq}
use Rattle.iv_grammar.specs.declared.sign.Sign.{Sign}

-- texts with what they are to the grammar
abbrev pub Table : Type 0
Table = List (List ℕ × Sign)

-- what a text is as a symbol: what the first entry of this text says
abbrev pub look : Table → List ℕ → Option Sign
look table w = lookup (bytes_eq w) table

-- this is the longest symbol at the front of a text, and how many characters it takes; or no symbol stands there
abbrev pub IsLongestSymbol : Table → List ℕ → Option (ℕ × Sign) → Type 0
IsLongestSymbol table text None = (n : ℕ) → 0 < n → n ≤ length text → look table (take n text) ≡ None
IsLongestSymbol table text (Some f) =
    (0 < f.0) × (f.0 ≤ length text) × (look table (take f.0 text) ≡ Some f.1) × ((n : ℕ) → f.0 < n → n ≤ length text → look table (take n text) ≡ None)
