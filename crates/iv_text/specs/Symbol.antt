-- The symbols of the language and their spellings. Of this project, after the symbols of Isabelle.
use Rattle.std.specs.Prelude.{ℕ, List, [], ◌∷◌, Option, find, ◌==◌, codes}
use Rattle.std.specs.Option.{option_map}
use Rattle.std.specs.Str.{bytes_eq}

-- a symbol: its name between `\<` and `>`, its character, and the spelling that is printed
pub record Symbol : Type 0 where
  pub name : List ℕ
  pub character : ℕ
  pub printed : List ℕ

-- a symbol of this name, character and printed spelling
abbrev pub row : List ℕ → ℕ → List ℕ → Symbol
row name character printed = record { name = name; character = character; printed = printed }

-- every symbol that has a character
abbrev pub symbols : List Symbol
symbols =
    row (codes "And") 0x22C0 (codes "!!")
    ∷ row (codes "Longrightarrow") 0x27F9 (codes "==>")
    ∷ row (codes "equiv") 0x2261 (codes "==")
    ∷ row (codes "lambda") 0x03BB (codes "%")
    ∷ row (codes "Rightarrow") 0x21D2 (codes "=>")
    ∷ row (codes "lbrakk") 0x27E6 (codes "[|")
    ∷ row (codes "rbrakk") 0x27E7 (codes "|]")
    ∷ row (codes "open") 0x2039 (codes "\\<open>")
    ∷ row (codes "close") 0x203A (codes "\\<close>")
    ∷ row (codes "bar") 0x00A6 (codes "\\<bar>")
    ∷ []

-- the character of the symbol of this name
abbrev pub character_named : List ℕ → Option ℕ
character_named name = option_map (λ s. s.character) (find (λ s. bytes_eq name s.name) symbols)

-- the printed spelling of the symbol of this character
abbrev pub printed_for : ℕ → Option (List ℕ)
printed_for c = option_map (λ s. s.printed) (find (λ s. c == s.character) symbols)
