-- How a quoted proposition reads: `PROP NAME`, one or more times, joined by `==>`. Of this project.
use Rattle.std.specs.Prelude.{ℕ, Bool, true, false, zero, suc, List, [], ◌∷◌, filter, if◌then◌else◌, ◌&&◌, not, nat_eq, codes, Option, Some, None}
use Rattle.std.specs.List.{onto_first, slice_split, starts_with, list_all}
use Rattle.std.specs.Str.{bytes_eq}
use Rattle.iv_statement.specs.Letter.{is_blank, is_letter, is_word_letter}

-- whether a word is not empty
abbrev pub has_letters : List ℕ → Bool
has_letters [] = false
has_letters (b ∷ bs) = true

-- the words of a text: what stands between its blanks, and is not empty
abbrev pub words_of : List ℕ → List (List ℕ)
words_of text = filter has_letters (slice_split is_blank text)

-- a first word and the words behind it, or no word where the first is empty
abbrev pub word_before : List ℕ → List (List ℕ) → List (List ℕ)
word_before [] words = []
word_before (b ∷ bs) words = (b ∷ bs) ∷ words

-- the parts of a text that is cut at each `==>`; the first `inside` letters belong to the arrow before
abbrev pub parts_from : ℕ → List ℕ → List (List ℕ)
parts_from inside [] = [] ∷ []
parts_from (suc inside) (b ∷ bs) = parts_from inside bs
parts_from zero (b ∷ bs) =
    if starts_with nat_eq (b ∷ bs) (codes "==>") then [] ∷ parts_from 2 bs else onto_first b (parts_from zero bs)

-- the parts of a text that is cut at each `==>`
abbrev pub parts_of : List ℕ → List (List ℕ)
parts_of text = parts_from zero text

-- the parts behind the first, if any
abbrev pub parts_after : Option (List ℕ) → List (List ℕ)
parts_after None = []
parts_after (Some rest) = parts_of rest

-- whether a text is one word: a letter, and then letters, digits and `_`
abbrev pub is_word : List ℕ → Bool
is_word [] = false
is_word (b ∷ bs) = is_letter b && list_all is_word_letter bs

-- whether a text may name a proposition: a word other than `PROP`
abbrev pub is_name : List ℕ → Bool
is_name text = is_word text && not (bytes_eq text (codes "PROP"))

-- the name in the words `PROP NAME`
abbrev pub name_in_words : List (List ℕ) → Option (List ℕ)
name_in_words (prop ∷ name ∷ []) = if (bytes_eq prop (codes "PROP") && is_name name) then Some name else None
name_in_words _ = None

-- the name in the part `PROP NAME`
abbrev pub name_in : List ℕ → Option (List ℕ)
name_in part = name_in_words (words_of part)

-- a name before others, where both are there
abbrev pub name_before : Option (List ℕ) → Option (List (List ℕ)) → Option (List (List ℕ))
name_before None names = None
name_before (Some name) None = None
name_before (Some name) (Some names) = Some (name ∷ names)

-- the names in these parts, where each has one
abbrev pub names_in : List (List ℕ) → Option (List (List ℕ))
names_in [] = Some []
names_in (part ∷ parts) = name_before (name_in part) (names_in parts)

-- how a text reads: the names of its parts, in order, or nothing where it is no proposition
abbrev pub reading_of : List ℕ → Option (List (List ℕ))
reading_of text = names_in (parts_of text)
