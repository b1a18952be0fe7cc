-- The forms of tokens: how many letters each takes. After the outer syntax of Isabelle's Reference Manual, in a profile of this project.
use Rattle.std.specs.Prelude.{ℕ, zero, suc, ◌+◌, ◌-◌, List, [], ◌∷◌, length, drop, Bool, true, false, not, Option, Some, None, ◌&&◌, ◌||◌, ◌==◌, if◌then◌else◌, take_while, nat_lt, codes}
use Rattle.std.specs.Option.{option_map}
use Rattle.iv_lex.specs.declared.letters.Letter.{Letter}
use Rattle.iv_lex.specs.declared.nests.Nest.{Nest}
use Rattle.iv_lex.specs.declared.nests.Nest.TheVariants.{Comment, Cartouche}
use Rattle.iv_lex.specs.Letter.{is_char, is_start, is_continue, is_digit, is_alpha, is_symbolic}

-- whether the first letter meets a test
abbrev pub first_is : (Letter → Bool) → List Letter → Bool
first_is test [] = false
first_is test (l ∷ ls) = test l

-- whether these characters stand first
abbrev pub spells : List ℕ → List Letter → Bool
spells [] ls = true
spells (c ∷ cs) [] = false
spells (c ∷ cs) (l ∷ ls) = is_char c l && spells cs ls

-- how many of the letters go on with an identifier
abbrev pub ident_more : List Letter → ℕ
ident_more ls = length (take_while is_continue ls)

-- whether a name goes on with the first letter: by a letter of an identifier, or by a dot directly before the start of one
abbrev pub goes_on : List Letter → Bool
goes_on ls = first_is is_continue ls || (first_is (is_char 46) ls && first_is is_start (drop 1 ls))

-- how many of the letters go on with a name
abbrev pub name_more : List Letter → ℕ
name_more [] = 0
name_more (l ∷ ls) = if goes_on (l ∷ ls) then suc (name_more ls) else 0

-- how many of the letters are digits
abbrev pub digits_more : List Letter → ℕ
digits_more ls = length (take_while is_digit ls)

-- how many of the letters are a dot and a number behind it: none where no digit follows the dot
abbrev pub number_more : List Letter → ℕ
number_more ls = if (first_is (is_char 46) ls && first_is is_digit (drop 1 ls)) then 1 + digits_more (drop 1 ls) else 0

-- how many of the letters behind a `?` go on with a variable
abbrev pub var_more : List Letter → ℕ
var_more ls = ident_more ls + number_more (drop (ident_more ls) ls)

-- how many of the letters go on with a run of symbols
abbrev pub symbols_more : List Letter → ℕ
symbols_more ls = length (take_while is_symbolic ls)

-- how many of the letters are a symbol's name
abbrev pub alphas : List Letter → ℕ
alphas ls = length (take_while is_alpha ls)

-- whether a symbol `\\<name>` stands first
abbrev pub is_named : List Letter → Bool
is_named ls = (spells (codes "\\<") ls && first_is is_alpha (drop 2 ls)) && first_is (is_char 62) (drop (2 + alphas (drop 2 ls)) ls)

-- how many of the letters behind a `"` belong to the string, its last `"` among them; a backslash stood directly before them or not
abbrev pub string_from : Bool → List Letter → Option ℕ
string_from escaped [] = None
string_from escaped (l ∷ ls) = if (not escaped && is_char 34 l) then Some 1 else option_map suc (string_from (not escaped && is_char 92 l) ls)

-- how many letters an opening takes at the front, or 0 where none stands there
abbrev pub opening : Nest → List Letter → ℕ
opening Comment ls = if spells (codes "(*") ls then 2 else 0
opening Cartouche ls = if spells (codes "\\<open>") ls then 7 else (if first_is (is_char 0x2039) ls then 1 else 0)

-- how many letters a closing takes at the front, or 0 where none stands there
abbrev pub closing : Nest → List Letter → ℕ
closing Comment ls = if spells (codes "*)") ls then 2 else 0
closing Cartouche ls = if spells (codes "\\<close>") ls then 8 else (if first_is (is_char 0x203A) ls then 1 else 0)

-- how many letters the bracket at the front takes, or the letter where no bracket stands there
abbrev pub front : Nest → List Letter → ℕ
front nest ls = if nat_lt 0 (opening nest ls) then opening nest ls else (if nat_lt 0 (closing nest ls) then closing nest ls else 1)

-- how many brackets stand open behind the front, where `depth` stand open before it
abbrev pub depth_after : Nest → ℕ → List Letter → ℕ
depth_after nest depth ls = if nat_lt 0 (opening nest ls) then depth + 1 else (if nat_lt 0 (closing nest ls) then depth - 1 else depth)

-- whether the front closes the only bracket that stands open
abbrev pub is_last : Nest → ℕ → List Letter → Bool
is_last nest depth ls = nat_lt 0 (closing nest ls) && depth_after nest depth ls == 0

-- how many letters go up to the closing of the outermost bracket, with it, where `depth` stand open; the first `inside` belong to the front before
unfoldable pub nested_from : Nest → ℕ → ℕ → List Letter → Option ℕ
nested_from nest inside depth [] = None
nested_from nest (suc inside) depth (l ∷ ls) = option_map suc (nested_from nest inside depth ls)
nested_from nest zero depth (l ∷ ls) =
    if is_last nest depth (l ∷ ls) then Some (front nest (l ∷ ls)) else option_map suc (nested_from nest (front nest (l ∷ ls) - 1) (depth_after nest depth (l ∷ ls)) ls)
