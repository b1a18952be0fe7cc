-- What it is to cut letters into tokens by longest match. Of this project, after the outer syntax of Isabelle's Reference Manual.
use Rattle.std.specs.Prelude.{◌≡◌, ◌<◌, List, [], ◌∷◌, ◌++◌, length, Option, None, Some}
use Rattle.iv_lex.specs.declared.letters.Letter.{Letter}
use Rattle.iv_lex.specs.declared.cutting.Kind.{Kind}
use Rattle.iv_lex.specs.declared.cutting.Kind.TheVariants.{Bad}
use Rattle.iv_lex.specs.declared.cutting.Token.{Token}
use Rattle.iv_lex.specs.Shape.{Stands}
use Rattle.iv_lex.specs.Token.{token_of}

-- no longer front of these letters is a token, a blank or a comment
abbrev pub IsLongest : List Letter → List Letter → Type 0
IsLongest w rest = (kind : Option Kind) (v u : List Letter) → v ++ u ≡ w ++ rest → length w < length v → Stands kind v u → ⊥

-- no front of these letters is one
abbrev pub IsStray : List Letter → Type 0
IsStray ls = (kind : Option Kind) (v u : List Letter) → v ++ u ≡ ls → Stands kind v u → ⊥

-- these letters are these tokens, with blanks and comments between them: each is the longest that stands there,
-- and a letter where nothing stands is a bad token by itself
pub data IsCut : List Letter → List Token → Type 0 where
  end : IsCut [] []
  gap : (w rest : List Letter) (ts : List Token) → Stands None w rest → IsLongest w rest → IsCut rest ts → IsCut (w ++ rest) ts
  token : (kind : Kind) (w rest : List Letter) (ts : List Token) → Stands (Some kind) w rest → IsLongest w rest → IsCut rest ts → IsCut (w ++ rest) (token_of kind w ∷ ts)
  stray : (l : Letter) (rest : List Letter) (ts : List Token) → IsStray (l ∷ rest) → IsCut rest ts → IsCut (l ∷ rest) (token_of Bad (l ∷ []) ∷ ts)
