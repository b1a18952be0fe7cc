-- The delimiters, and the spellings of symbols. After the symbols and the inner syntax of Isabelle's Reference Manual, in a profile of this project.
use Rattle.std.specs.Prelude.{ℕ, List, [], ◌∷◌, map, find, option_to_list, codes}
use Rattle.std.specs.Option.{option_map}
use Rattle.std.specs.Str.{bytes_eq}
use Rattle.iv_text.specs.Symbol.{symbols}
use Rattle.iv_grammar.specs.declared.sign.Sign.{Sign}
use Rattle.iv_grammar.specs.declared.sign.Sign.TheVariants as sign
use Rattle.iv_grammar.specs.Symbol.{Table}

-- the delimiters, each in all its spellings
abbrev pub delimiters : Table
delimiters =
    (codes "(", sign.Open) ∷ (codes ")", sign.Close) ∷ (codes "::", sign.Colons) ∷ (codes ".", sign.Dot) ∷ (codes ";", sign.Semicolon) ∷ (codes ",", sign.Comma) ∷ (codes "[", sign.OpenTypes) ∷ (codes "]", sign.CloseTypes)
    ∷ (codes "PROP", sign.Prop) ∷ (codes "_", sign.Dummy) ∷ (codes "...", sign.Dots)
    ∷ (codes "%", sign.Lambda) ∷ (codes "\\<lambda>", sign.Lambda) ∷ (0x03BB ∷ [], sign.Lambda)
    ∷ (codes "==", sign.Equals) ∷ (codes "\\<equiv>", sign.Equals) ∷ (0x2261 ∷ [], sign.Equals)
    ∷ (codes "==>", sign.Implies) ∷ (codes "\\<Longrightarrow>", sign.Implies) ∷ (0x27F9 ∷ [], sign.Implies)
    ∷ (codes "!!", sign.All) ∷ (codes "\\<And>", sign.All) ∷ (0x22C0 ∷ [], sign.All)
    ∷ (codes "=>", sign.Arrow) ∷ (codes "\\<Rightarrow>", sign.Arrow) ∷ (0x21D2 ∷ [], sign.Arrow)
    ∷ (codes "[|", sign.OpenPremises) ∷ (codes "\\<lbrakk>", sign.OpenPremises) ∷ (0x27E6 ∷ [], sign.OpenPremises)
    ∷ (codes "|]", sign.ClosePremises) ∷ (codes "\\<rbrakk>", sign.ClosePremises) ∷ (0x27E7 ∷ [], sign.ClosePremises)
    ∷ []

-- the spellings of a declared symbol: as it is printed, and by its character where the table of symbols has one
abbrev pub spellings_of : List ℕ → List (List ℕ)
spellings_of s = s ∷ option_to_list (option_map (λ r. r.character ∷ []) (find (λ r. bytes_eq s r.printed) symbols))

-- the entries of a declared symbol
abbrev pub declared_as : List ℕ → Sign → Table
declared_as s sign = map (λ w. (w, sign)) (spellings_of s)
