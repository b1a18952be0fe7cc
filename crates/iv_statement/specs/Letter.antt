-- The letters of a quoted proposition. Of this project.
use Rattle.std.specs.Prelude.{ℕ, Bool, ◌||◌, ◌==◌}
use Rattle.std.specs.Char.{is_ascii_alphabetic, is_ascii_alphanumeric}

-- a space, tab, line feed or carriage return
abbrev pub is_blank : ℕ → Bool
is_blank c = ((c == 32 || c == 9) || c == 10) || c == 13

-- an ASCII letter
abbrev pub is_letter : ℕ → Bool
is_letter c = is_ascii_alphabetic c

-- a letter of a word: an ASCII letter, a digit or `_`
abbrev pub is_word_letter : ℕ → Bool
is_word_letter c = is_ascii_alphanumeric c || c == 95
