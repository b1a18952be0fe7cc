-- Tokens by their classes. Of this project.
use Rattle.std.specs.Prelude.{◌≡◌, List, [], ◌∷◌, true}
use Rattle.iv_lex.specs.declared.cutting.Token.{Token}
use Rattle.iv_recogniser.specs.declared.class.Class.{Class}
use Rattle.iv_recogniser.specs.declared.class.Sort.{Sort}
use Rattle.iv_recogniser.specs.declared.class.Sort.TheVariants.{Only}
use Rattle.iv_recogniser.specs.Class.{has}
use Rattle.iv_forms.specs.declared.lexeme.Lexeme.{Lexeme}

-- a token of a set
abbrev pub Is : Sort → Lexeme → Type 0
Is k t = has k t.class ≡ true

-- a token of a class
abbrev pub IsA : Class → Lexeme → Type 0
IsA c t = has (Only c) t.class ≡ true

-- any number of tokens of a set
pub data AreAll (k : Sort) : List Token → List Lexeme → List Lexeme → Type 0 where
  no_more : {ts : List Lexeme} → AreAll k [] ts ts
  one_more : {x : Lexeme} {xs : List Token} {ts us : List Lexeme} → Is k x → AreAll k xs ts us → AreAll k (x.token ∷ xs) (x ∷ ts) us
