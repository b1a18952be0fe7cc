-- What it is to cut an inner text into tokens by longest match. Of this project, after the inner syntax of Isabelle's Reference Manual.
use Rattle.std.specs.Prelude.{◌≡◌, ◌<◌, ◌≤◌, ℕ, List, [], ◌∷◌, ◌++◌, length, take, drop, true, false, None, Some}
use Rattle.iv_grammar.specs.declared.sign.Sign.{Sign}
use Rattle.iv_grammar.specs.declared.words.Word.{Word}
use Rattle.iv_grammar.specs.declared.cutting.Token.{Token}
use Rattle.iv_grammar.specs.declared.cutting.Token.TheVariants as token
use Rattle.iv_grammar.specs.declared.cutting.Front.{Front}
use Rattle.iv_grammar.specs.declared.cutting.Front.TheVariants as front
use Rattle.iv_grammar.specs.Word.{is_blank, IsWord}
use Rattle.iv_grammar.specs.Measure.{first_is, word_of}
use Rattle.iv_grammar.specs.Symbol.{Table, look}

-- these characters are a token: a symbol of the table, or a word that is no symbol
pub data Stands (table : Table) (w : List ℕ) : Token → Type 0 where
  symbol : (s : Sign) → 0 < length w → look table w ≡ Some s → Stands table w (token.Sign s)
  word : (k : Word) → IsWord k w → look table w ≡ None → Stands table w (token.Word k w)

-- no longer front of these characters is a token
abbrev pub IsLongest : Table → List ℕ → List ℕ → Type 0
IsLongest table w rest = (t : Token) (v u : List ℕ) → v ++ u ≡ w ++ rest → length w < length v → Stands table v t → ⊥

-- no front of these characters is one
abbrev pub IsStray : Table → List ℕ → Type 0
IsStray table cs = (t : Token) (v u : List ℕ) → v ++ u ≡ cs → Stands table v t → ⊥

-- a text is these tokens, with blanks between them: each is the longest that stands at its place
pub data IsCut (table : Table) : List ℕ → List Token → Type 0 where
  end : IsCut table [] []
  gap : (c : ℕ) (rest : List ℕ) (ts : List Token) → is_blank c ≡ true → IsCut table rest ts → IsCut table (c ∷ rest) ts
  step : (t : Token) (w rest : List ℕ) (ts : List Token) → first_is is_blank w ≡ false → Stands table w t → IsLongest table w rest → IsCut table rest ts → IsCut table (w ++ rest) (t ∷ ts)

-- a token is the longest that stands in front, and takes so many characters
pub record IsFirst (table : Table) (cs : List ℕ) (n : ℕ) (t : Token) : Type 0 where
  pub some : 0 < n
  pub within : n ≤ length cs
  pub stands : Stands table (take n cs) t
  pub longest : IsLongest table (take n cs) (drop n cs)

-- what stands in front
abbrev pub IsFront : Table → List ℕ → Front → Type 0
IsFront table cs (front.Sign n s) = IsFirst table cs n (token.Sign s)
IsFront table cs (front.Word n) = IsFirst table cs n (token.Word (word_of (take n cs)) (take n cs))
IsFront table cs front.Nothing = IsStray table cs

-- a text begins with these tokens, and a rest is left behind them
pub record Goes (table : Table) (text rest : List ℕ) (more : List Token) : Type 0 where
  pub on : (ts : List Token) → IsCut table rest ts → IsCut table text (more ++ ts)
  pub back : (ts : List Token) → IsCut table text ts → (us : List Token) × ((ts ≡ more ++ us) × IsCut table rest us)

-- the same, where the tokens are pushed to others
abbrev pub Pushed : Table → List ℕ → List ℕ → List Token → List Token → Type 0
Pushed table text rest old new = (more : List Token) × ((new ≡ old ++ more) × Goes table text rest more)
