-- The words of inner texts. After the inner syntax of Isabelle's Reference Manual, in a profile of this project.
use Rattle.std.specs.Prelude.{◌≡◌, ℕ, List, [], ◌∷◌, ◌++◌, Bool, true, false, not, ◌&&◌, ◌||◌, ◌==◌}
use Rattle.std.specs.List.{list_all}
use Rattle.std.specs.Char.{is_ascii_digit}
use Rattle.unicode_ident.specs.Ident.{is_xid_start, is_xid_continue}
use Rattle.iv_grammar.specs.declared.words.Word.{Word}
use Rattle.iv_grammar.specs.declared.words.Word.TheVariants as word

-- whether a character is a space, tab, line feed or carriage return
abbrev pub is_blank : ℕ → Bool
is_blank c = ((c == 32 || c == 9) || c == 10) || c == 13

-- whether a character may begin an identifier: U+03BB is the symbol of abstraction
abbrev pub is_start : ℕ → Bool
is_start c = is_xid_start c && not (c == 0x03BB)

-- whether a character may go on with an identifier: a quote may too
abbrev pub is_continue : ℕ → Bool
is_continue c = (is_xid_continue c || c == 39) && not (c == 0x03BB)

-- an identifier: a character that begins one, and then characters that go on with it
abbrev pub is_ident : List ℕ → Bool
is_ident [] = false
is_ident (c ∷ cs) = is_start c && list_all is_continue cs

-- a number: one digit or more
abbrev pub is_number : List ℕ → Bool
is_number [] = false
is_number (c ∷ cs) = is_ascii_digit c && list_all is_ascii_digit cs

-- an identifier, then one or more of a dot and an identifier
pub data IsLong : List ℕ → Type 0 where
  last : (a b : List ℕ) → is_ident a ≡ true → is_ident b ≡ true → IsLong (a ++ (46 ∷ b))
  more : (a b : List ℕ) → is_ident a ≡ true → IsLong b → IsLong (a ++ (46 ∷ b))

-- what the words of each kind look like: an identifier; a long name; a question mark and an identifier, and maybe a dot and a
-- number; a quote and an identifier
pub data IsWord : Word → List ℕ → Type 0 where
  ident : (a : List ℕ) → is_ident a ≡ true → IsWord word.Ident a
  long : (a : List ℕ) → IsLong a → IsWord word.Long a
  variable : (a : List ℕ) → is_ident a ≡ true → IsWord word.Var (63 ∷ a)
  numbered : (a n : List ℕ) → is_ident a ≡ true → is_number n ≡ true → IsWord word.Var (63 ∷ (a ++ (46 ∷ n)))
  type_variable : (a : List ℕ) → is_ident a ≡ true → IsWord word.Tvar (39 ∷ a)
