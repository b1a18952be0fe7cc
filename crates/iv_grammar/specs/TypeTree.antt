-- Trees of types. After the inner syntax of Isabelle's Reference Manual, in a profile of this project.
use Rattle.std.specs.Prelude.{◌≡◌, ℕ, ◌+◌, List, [], ◌∷◌, ◌++◌, Bool, true, false, max}
use Rattle.iv_grammar.specs.declared.sign.Sign.TheVariants as sign
use Rattle.iv_grammar.specs.declared.words.Word.TheVariants as word
use Rattle.iv_grammar.specs.declared.cutting.Token.{Token}
use Rattle.iv_grammar.specs.declared.cutting.Token.TheVariants as token

-- a type; or the beginning of a list of types: a bracket and a type, and so on with a comma and a type. A list alone is no type.
pub data Ty : Type 0 where
  -- `'a` and `c`
  var : List ℕ → Ty
  con : List ℕ → Ty
  -- `( T )` and `T c`
  paren : Ty → Ty
  applied : Ty → List ℕ → Ty
  -- `( T` and `[ T`; `Ts , T`
  round : Ty → Ty
  square : Ty → Ty
  more : Ty → Ty → Ty
  -- `Ts ) c`, where Ts are at least two behind a `(`
  tuple : Ty → List ℕ → Ty
  -- `T => U`; `Ts ] => U`, where Ts are behind a `[`
  arrow : Ty → Ty → Ty
  arrows : Ty → Ty → Ty

abbrev pub ident : List ℕ → Token
ident x = token.Word word.Ident x

-- the tokens of a tree
abbrev pub type_yield : Ty → List Token
type_yield (var x) = token.Word word.Tvar x ∷ []
type_yield (con c) = ident c ∷ []
type_yield (paren t) = token.Sign sign.Open ∷ (type_yield t ++ token.Sign sign.Close ∷ [])
type_yield (applied t c) = type_yield t ++ ident c ∷ []
type_yield (round t) = token.Sign sign.Open ∷ type_yield t
type_yield (square t) = token.Sign sign.OpenTypes ∷ type_yield t
type_yield (more ts t) = type_yield ts ++ token.Sign sign.Comma ∷ type_yield t
type_yield (tuple ts c) = type_yield ts ++ token.Sign sign.Close ∷ ident c ∷ []
type_yield (arrow t u) = type_yield t ++ token.Sign sign.Arrow ∷ type_yield u
type_yield (arrows ts u) = type_yield ts ++ token.Sign sign.CloseTypes ∷ token.Sign sign.Arrow ∷ type_yield u

-- atoms, and beginnings of lists: whose bracket is a `(`, with one type or with more, or a `[`
abbrev pub is_atom : Ty → Bool
is_atom (var x) = true
is_atom (con c) = true
is_atom (paren t) = true
is_atom (applied t c) = true
is_atom (tuple ts c) = true
is_atom t = false

abbrev pub is_round : Ty → Bool
is_round (round t) = true
is_round (more ts t) = is_round ts
is_round t = false

abbrev pub is_square : Ty → Bool
is_square (square t) = true
is_square (more ts t) = is_square ts
is_square t = false

abbrev pub is_more : Ty → Bool
is_more (more ts t) = true
is_more t = false

abbrev pub is_types : Ty → Bool
is_types (round t) = true
is_types (square t) = true
is_types (more ts t) = true
is_types t = false

-- whether a tree could go on with a token
abbrev pub type_takes : Token → Ty → Bool
type_takes (token.Word word.Ident x) t = is_atom t
type_takes (token.Sign sign.Arrow) t = is_atom t
type_takes (token.Sign sign.Comma) t = is_types t
type_takes (token.Sign sign.Close) t = is_round t
type_takes (token.Sign sign.CloseTypes) t = is_square t
type_takes k t = false

abbrev pub type_goes_on : Ty → List Token → Bool
type_goes_on t [] = false
type_goes_on t (k ∷ after) = type_takes k t

-- a type with these tokens behind it, which takes as many tokens as it can
pub record TypeSuits (t : Ty) (after : List Token) : Type 0 where
  pub is_type : is_types t ≡ false
  pub stops : type_goes_on t after ≡ false

-- a tree with these tokens behind it is one of the grammar: each right place holds a type that takes as many tokens as it can
abbrev pub TypeFits : Ty → List Token → Type 0
TypeFits (var x) after = Unit {0}
TypeFits (con c) after = Unit {0}
TypeFits (paren t) after = TypeSuits t (token.Sign sign.Close ∷ after) × TypeFits t (token.Sign sign.Close ∷ after)
TypeFits (applied t c) after = (is_atom t ≡ true) × TypeFits t (ident c ∷ after)
TypeFits (round t) after = TypeSuits t after × TypeFits t after
TypeFits (square t) after = TypeSuits t after × TypeFits t after
TypeFits (more ts t) after = (is_types ts ≡ true) × (TypeFits ts (token.Sign sign.Comma ∷ (type_yield t ++ after)) × (TypeSuits t after × TypeFits t after))
TypeFits (tuple ts c) after = (is_round ts ≡ true) × ((is_more ts ≡ true) × TypeFits ts (token.Sign sign.Close ∷ ident c ∷ after))
TypeFits (arrow t u) after = (is_atom t ≡ true) × (TypeFits t (token.Sign sign.Arrow ∷ (type_yield u ++ after)) × (TypeSuits u after × TypeFits u after))
TypeFits (arrows ts u) after =
    (is_square ts ≡ true) × (TypeFits ts (token.Sign sign.CloseTypes ∷ token.Sign sign.Arrow ∷ (type_yield u ++ after)) × (TypeSuits u after × TypeFits u after))

-- a tree belongs to a list of tokens
pub record TypeBelongs (tokens : List Token) (t : Ty) : Type 0 where
  pub yields : type_yield t ≡ tokens
  pub suits : TypeSuits t []
  pub fits : TypeFits t []

-- the depth of a tree: a constructor with its arguments, an arrow, a list of arguments with its arrow and a pair of parentheses add one level each
abbrev pub type_depth : Ty → ℕ
type_depth (var x) = 0
type_depth (con c) = 0
type_depth (paren t) = type_depth t + 1
type_depth (applied t c) = type_depth t + 1
type_depth (round t) = type_depth t
type_depth (square t) = type_depth t
type_depth (more ts t) = max (type_depth ts) (type_depth t)
type_depth (tuple ts c) = type_depth ts + 1
type_depth (arrow t u) = max (type_depth t) (type_depth u) + 1
type_depth (arrows ts u) = max (type_depth ts) (type_depth u) + 1
