-- The texts of tokens. Of this project, after the outer syntax of Isabelle.
use Rattle.std.specs.Prelude.{ℕ, ◌-◌, List, [], ◌∷◌, ◌++◌, length, take, drop, Bool, true, false, not, Option, ◌&&◌, ◌||◌, ◌==◌, if◌then◌else◌, codes, find, unwrap_or}
use Rattle.std.specs.Option.{option_map}
use Rattle.iv_text.specs.Symbol.{Symbol, symbols}
use Rattle.iv_lex.specs.declared.letters.Letter.{Letter}
use Rattle.iv_lex.specs.declared.nests.Nest.TheVariants as nest
use Rattle.iv_lex.specs.declared.cutting.Kind.{Kind}
use Rattle.iv_lex.specs.declared.cutting.Kind.TheVariants as kind
use Rattle.iv_lex.specs.Letter.{chars_of, is_char}
use Rattle.iv_lex.specs.Form.{first_is, spells, opening}

-- a quote or a backslash stands first
abbrev pub is_escapable : List ℕ → Bool
is_escapable [] = false
is_escapable (c ∷ cs) = c == 34 || c == 92

-- whether the first character is a backslash that escapes the next, where it isn't escaped itself
abbrev pub is_escape : Bool → List ℕ → Bool
is_escape escaped [] = false
is_escape escaped (c ∷ cs) = (not escaped && c == 92) && is_escapable cs

-- a string's text: a backslash directly before a quote or a backslash falls away; the first character is escaped or not
abbrev pub unescaped : Bool → List ℕ → List ℕ
unescaped escaped [] = []
unescaped escaped (c ∷ cs) = if is_escape escaped (c ∷ cs) then unescaped true cs else c ∷ unescaped false cs

-- how many letters the closing takes at the end of a cartouche
abbrev pub ending : List Letter → ℕ
ending ls = if first_is (is_char 0x203A) (drop (length ls - 1) ls) then 1 else 8

-- some letters without so many in front and so many at the end
abbrev pub inner : ℕ → ℕ → List Letter → List Letter
inner front back ls = drop front (take (length ls - back) ls)

-- whether these letters are the symbol, by name or by character
abbrev pub is_symbol : List Letter → Symbol → Bool
is_symbol ls s = spells (codes "\\<" ++ s.name ++ codes ">") ls || first_is (is_char s.character) ls

-- the printed spelling of the symbol that these letters are, where the table has it
unfoldable pub printed_symbol : List Letter → Option (List ℕ)
printed_symbol ls = option_map (λ s. s.printed) (find (is_symbol ls) symbols)

-- the text of a token of this kind and these letters
abbrev pub text_of : Kind → List Letter → List ℕ
text_of kind.Bad ls = []
text_of kind.Str ls = unescaped false (chars_of (inner 1 1 ls))
text_of kind.Cart ls = chars_of (inner (opening nest.Cartouche ls) (ending ls) ls)
text_of kind.Sym ls = unwrap_or (printed_symbol ls) (chars_of ls)
text_of _ ls = chars_of ls
