-- The class of a token, by its kind and its text. Of this project.
use Rattle.std.specs.Prelude.{ℕ, ◌+◌, ◌-◌, ◌*◌, List, [], ◌∷◌, drop, Bool, true, false, not, Option, Some, None, ◌&&◌, ◌||◌, ◌==◌, if◌then◌else◌, nat_lt, codes, is_some, unwrap_or}
use Rattle.std.specs.List.{prefix_len}
use Rattle.iv_lex.specs.declared.cutting.Kind.{Kind}
use Rattle.iv_lex.specs.declared.cutting.Kind.TheVariants as kind
use Rattle.iv_lex.specs.declared.cutting.Token.{Token}
use Rattle.iv_recogniser.specs.declared.class.Class.{Class}
use Rattle.iv_recogniser.specs.declared.class.Class.TheVariants as class
use Rattle.iv_forms.specs.declared.lexeme.Lexeme.{Lexeme}
use Rattle.iv_outer.specs.Words.{Entry, words, delimiters, signs}

-- whether a text has just these characters
abbrev pub spelled : List ℕ → List ℕ → Bool
spelled [] [] = true
spelled [] (c ∷ cs) = false
spelled (b ∷ bs) [] = false
spelled (b ∷ bs) (c ∷ cs) = c == b && spelled bs cs

-- the class that a table has for a text
abbrev pub looked_up : List Entry → List ℕ → Option Class
looked_up [] text = None
looked_up (e ∷ es) text = if spelled e.0 text then Some e.1 else looked_up es text

-- the number that digits are, behind a number
abbrev pub value_from : ℕ → List ℕ → ℕ
value_from n [] = n
value_from n (c ∷ cs) = value_from (n * 10 + (c - 48)) cs

-- the number that digits are, up to 4,294,967,295
unfoldable pub number_of : List ℕ → Option ℕ
number_of cs = if nat_lt (value_from 0 cs) 4294967296 then Some (value_from 0 cs) else None

-- the class of a number
abbrev pub number_class : Option ℕ → Class
number_class None = class.Other
number_class (Some n) = if nat_lt n 1000 then class.Low else (if n == 1000 then class.Thousand else class.Nat)

-- whether a character may stand in a declared symbol: it is no blank and no `_`
abbrev pub is_symbolic : ℕ → Bool
is_symbolic c = not ((c == 32 || c == 9) || (c == 10 || (c == 13 || c == 95)))

-- the class of a string, by what stands behind its symbol
abbrev pub symbol_class : List ℕ → Class
symbol_class rest =
    if spelled [] rest then class.Plain else (if (spelled (codes "_") rest || spelled (codes " _") rest) then class.Prefix else (if spelled (codes " ") rest then class.Spaced else class.Str))

-- the class of a string that is no form of a judgment
abbrev pub other_string_class : List ℕ → Class
other_string_class text = if prefix_len is_symbolic text == 0 then class.Str else symbol_class (drop (prefix_len is_symbolic text) text)

-- the class of a string
unfoldable pub string_class : List ℕ → Class
string_class text =
    if (spelled (codes "_") text || spelled (codes "(_)") text) then class.Judging else other_string_class text

-- what stands behind the first dot
abbrev pub behind_dot : List ℕ → List ℕ
behind_dot [] = []
behind_dot (c ∷ cs) = if c == 46 then cs else behind_dot cs

-- the class of a token
unfoldable pub class_of : Kind → List ℕ → Class
class_of kind.Ident text = unwrap_or (looked_up words text) class.Ident
class_of kind.Long text = class.Long
class_of kind.Nat text = number_class (number_of text)
class_of kind.Var text = if is_some (number_of (behind_dot text)) then class.Var else class.Other
class_of kind.Tvar text = class.Tvar
class_of kind.Str text = string_class text
class_of kind.Cart text = class.Cart
class_of kind.Sym text = unwrap_or (looked_up signs text) class.Other
class_of kind.Single text = unwrap_or (looked_up delimiters text) class.Other
class_of kind.Bad text = class.Other

-- the number of a token: 0 where it is none
unfoldable pub number_in : Kind → List ℕ → ℕ
number_in kind.Nat text = unwrap_or (number_of text) 0
number_in _ text = 0

-- a token with its class and its number
abbrev pub lexeme_of : Token → Lexeme
lexeme_of t = record { class = class_of t.kind t.text; token = t; number = number_in t.kind t.text }
