-- The cartouches of cases are opened: where one stands behind `=>`, its tokens stand between two marks, all at its place. Of this project.
use Rattle.std.specs.Prelude.{ℕ, zero, suc, List, [], ◌∷◌, ◌++◌, length, map, Bool, false, ◌&&◌, ◌||◌, if◌then◌else◌, nat_lt, max, encode_utf8_all}
use Rattle.iv_lex.specs.declared.cutting.Token.{Token}
use Rattle.iv_lex.specs.Token.{tokens_of}
use Rattle.iv_recogniser.specs.declared.class.Class.{Class}
use Rattle.iv_recogniser.specs.declared.class.Class.TheVariants as class
use Rattle.iv_recogniser.specs.Class.{same_class}
use Rattle.iv_forms.specs.declared.lexeme.Lexeme.{Lexeme}
use Rattle.iv_outer.specs.Classify.{lexeme_of}

-- a token of a cartouche, at the cartouche's place
abbrev pub placed : Token → Token → Token
placed c t = record { kind = t.kind; text = t.text; at = c.at; end = c.end }

-- a bracket of a cartouche
abbrev pub bracket : Class → Token → Lexeme
bracket k c = record { class = k; token = c; number = 0 }

-- what stands in a cartouche, with its brackets
abbrev pub inside : Token → List Lexeme
inside c =
    bracket class.Into c ∷ (map (λ t. lexeme_of (placed c t)) (tokens_of (encode_utf8_all c.text)) ++ bracket class.OutOf c ∷ [])

-- whether a token behind one of this class is the cartouche of a case
abbrev pub is_case : Class → Lexeme → Bool
is_case before l = same_class before class.Arrow && same_class l.class class.Cart

-- a cartouche is opened, unless its text has 4 GiB
unfoldable pub opened_cartouche : Lexeme → List Lexeme
opened_cartouche l = if nat_lt (length (encode_utf8_all l.token.text)) 4294967296 then inside l.token else (l ∷ [])

-- the cartouches of cases are opened, those inside them not
abbrev pub open_once : Class → List Lexeme → List Lexeme
open_once before [] = []
open_once before (l ∷ ls) = (if is_case before l then opened_cartouche l else (l ∷ [])) ++ open_once l.class ls

-- and those inside them, so many times
abbrev pub opened : ℕ → List Lexeme → List Lexeme
opened zero ls = ls
opened (suc n) ls = opened n (open_once class.Other ls)

-- whether the cartouche of a case is among them
abbrev pub any_case : Class → List Lexeme → Bool
any_case before [] = false
any_case before (l ∷ ls) = is_case before l || any_case l.class ls

-- how long the longest text is, or this length: cartouches in a text are nested less deep than it is long
abbrev pub longest : ℕ → List Token → ℕ
longest n [] = n
longest n (t ∷ ts) = longest (max (length t.text) n) ts

-- the tokens that the forms read
unfoldable pub lexemes_of : List Token → List Lexeme
lexemes_of ts = opened (longest 0 ts) (map lexeme_of ts)
