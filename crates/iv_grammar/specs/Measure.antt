-- How many characters the longest word at the front takes, and which word it is. Of this project.
use Rattle.std.specs.Prelude.{ℕ, suc, ◌+◌, List, [], ◌∷◌, length, drop, Bool, false, ◌&&◌, ◌||◌, ◌==◌, if◌then◌else◌, take_while}
use Rattle.std.specs.List.{list_any}
use Rattle.std.specs.Char.{is_ascii_digit}
use Rattle.iv_grammar.specs.declared.words.Word.{Word}
use Rattle.iv_grammar.specs.declared.words.Word.TheVariants as word
use Rattle.iv_grammar.specs.Word.{is_start, is_continue}

-- whether the first character meets a test
abbrev pub first_is : (ℕ → Bool) → List ℕ → Bool
first_is test [] = false
first_is test (c ∷ cs) = test c

-- how many of the characters go on with an identifier
abbrev pub ident_more : List ℕ → ℕ
ident_more cs = length (take_while is_continue cs)

-- whether a name goes on with the first character: one of an identifier, or a dot directly before the start of one
abbrev pub goes_on : List ℕ → Bool
goes_on cs = first_is is_continue cs || (first_is (λ c. c == 46) cs && first_is is_start (drop 1 cs))

-- how many of the characters go on with a name
abbrev pub name_more : List ℕ → ℕ
name_more [] = 0
name_more (c ∷ cs) = if goes_on (c ∷ cs) then suc (name_more cs) else 0

-- how many of the characters are digits
abbrev pub digits_more : List ℕ → ℕ
digits_more cs = length (take_while is_ascii_digit cs)

-- how many of the characters are a dot and a number behind it: none where no digit follows the dot
abbrev pub number_more : List ℕ → ℕ
number_more cs = if (first_is (λ c. c == 46) cs && first_is is_ascii_digit (drop 1 cs)) then 1 + digits_more (drop 1 cs) else 0

-- how many of the characters behind a `?` go on with a variable
abbrev pub var_more : List ℕ → ℕ
var_more cs = ident_more cs + number_more (drop (ident_more cs) cs)

-- how many characters the longest word at the front takes: none where no word begins
unfoldable pub word_count : List ℕ → ℕ
word_count [] = 0
word_count (c ∷ cs) =
    if is_start c then suc (name_more cs) else (if (c == 63 && first_is is_start cs) then suc (var_more cs) else (if (c == 39 && first_is is_start cs) then suc (ident_more cs) else 0))

-- which word some characters are, where they are one
unfoldable pub word_of : List ℕ → Word
word_of cs = if first_is (λ c. c == 63) cs then word.Var else (if first_is (λ c. c == 39) cs then word.Tvar else (if list_any (λ c. c == 46) cs then word.Long else word.Ident))
