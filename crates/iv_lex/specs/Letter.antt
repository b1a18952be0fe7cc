-- A document's letters: its characters by UTF-8 (the Unicode Standard, Table 3-7), and each single byte that is none.
use Rattle.std.specs.Prelude.{ℕ, zero, suc, ◌+◌, ◌-◌, List, [], ◌∷◌, Bool, false, Option, ◌==◌, ◌&&◌, ◌||◌, not, codes, is_some}
use Rattle.std.specs.Option.{option_map_or}
use Rattle.std.specs.Char.{is_ascii_digit, is_ascii_alphabetic}
use Rattle.std.specs.List.{filter_map, list_any}
use Rattle.iv_text.specs.Symbol.{printed_for}
use Rattle.bstr.specs.Utf8.{decoded}
use Rattle.unicode_ident.specs.Ident.{is_xid_start, is_xid_continue}
use Rattle.iv_lex.specs.declared.letters.Letter.{Letter}

-- how many more bytes belong to the letter that begins these bytes
unfoldable pub letter_more : List ℕ → ℕ
letter_more bs = option_map_or (λ _. (decoded bs).size - 1) (decoded bs).char 0

-- the character that begins these bytes, if one does
unfoldable pub letter_value : List ℕ → Option ℕ
letter_value bs = (decoded bs).char

-- the letter that begins these bytes, which stand at an offset
abbrev pub letter_at : ℕ → List ℕ → Letter
letter_at at bs = record { value = letter_value bs; at = record { 0 = at }; end = record { 0 = at + 1 + letter_more bs } }

-- the letters that begin in these bytes, which stand at an offset; the first `inside` of them belong to the letter before
abbrev pub letters_from : ℕ → ℕ → List ℕ → List Letter
letters_from inside at [] = []
letters_from (suc inside) at (b ∷ bs) = letters_from inside (at + 1) bs
letters_from zero at (b ∷ bs) = letter_at at (b ∷ bs) ∷ letters_from (letter_more (b ∷ bs)) (at + 1) bs

-- the letters of a document
abbrev pub letters_of : List ℕ → List Letter
letters_of bytes = letters_from 0 0 bytes

-- whether a letter is a character of some sort
abbrev pub is_some_char : (ℕ → Bool) → Letter → Bool
is_some_char test l = option_map_or test l.value false

-- whether a letter is this character
abbrev pub is_char : ℕ → Letter → Bool
is_char c l = is_some_char (λ d. d == c) l

-- whether a letter is a space, tab, line feed or carriage return
abbrev pub is_blank : Letter → Bool
is_blank l = is_some_char (λ c. ((c == 32 || c == 9) || c == 10) || c == 13) l

-- whether a letter may begin an identifier: U+03BB is the symbol of abstraction
abbrev pub is_start : Letter → Bool
is_start l = is_some_char (λ c. is_xid_start c && not (c == 0x03BB)) l

-- whether a letter may go on with an identifier: a quote may too
abbrev pub is_continue : Letter → Bool
is_continue l = is_some_char (λ c. (is_xid_continue c || c == 39) && not (c == 0x03BB)) l

-- whether a letter is a digit
abbrev pub is_digit : Letter → Bool
is_digit l = is_some_char is_ascii_digit l

-- whether a letter is an ASCII letter
abbrev pub is_alpha : Letter → Bool
is_alpha l = is_some_char is_ascii_alphabetic l

-- whether a letter may stand in a run of symbols
abbrev pub is_symbolic : Letter → Bool
is_symbolic l = is_some_char (λ c. list_any (λ d. d == c) (codes "!#$%&*+-/<=>?@^_|~")) l

-- whether a letter is a character of the table of symbols
abbrev pub is_sign : Letter → Bool
is_sign l = is_some_char (λ c. is_some (printed_for c)) l

-- whether a letter is a delimiter
abbrev pub is_single : Letter → Bool
is_single l = is_some_char (λ c. list_any (λ d. d == c) (codes "()[]{},;:.")) l

-- the characters of some letters
abbrev pub chars_of : List Letter → List ℕ
chars_of ls = filter_map (λ l. l.value) ls
