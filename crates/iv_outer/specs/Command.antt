-- The command that a piece is read as. After the outer syntax of Isabelle's Reference Manual.
use Rattle.std.specs.Prelude.{◌≡◌, ◌⊎◌, ℕ, List, [], ◌∷◌, codes, if◌then◌else◌, Some, None}
use Rattle.iv_lex.specs.declared.cutting.Token.{Token}
use Rattle.iv_text.specs.declared.Pos.{Pos}
use Rattle.iv_forms.specs.declared.lexeme.Lexeme.{Lexeme}
use Rattle.iv_forms.specs.declared.command.Body.{Body}
use Rattle.iv_forms.specs.CommandForm.{IsForm}
use Rattle.iv_read.specs.FormLevels.{deep_form}
use Rattle.iv_outer.specs.declared.reading.Reading.{Reading}
use Rattle.iv_outer.specs.declared.reading.Reading.TheVariants as reading
use Rattle.iv_outer.specs.declared.reading.Command.{Command}
use Rattle.iv_outer.specs.Opened.{lexemes_of}
use Rattle.iv_outer.specs.Piece.{begins}
use Rattle.iv_outer.specs.Unreadable.{IsUnreadableAt}

-- a form reads all of the tokens, and the first part that has too many levels begins at this place
abbrev pub IsTooDeepAt : Pos → List Lexeme → Type 0
IsTooDeepAt p ts = (f : Body) × (d : IsForm f ts []) × (deep_form d ≡ Some p)

-- what the tokens of a piece are read as: a form reads them, and no part has too many levels; or they are refused at this place
abbrev pub IsReading : Reading → List Lexeme → Type 0
IsReading (reading.Form f) ts = (d : IsForm f ts []) × (deep_form d ≡ None)
IsReading (reading.Unreadable p) ts = IsUnreadableAt p ts ⊎ IsTooDeepAt p ts

-- where a piece begins
abbrev pub at_of : List Token → Pos
at_of [] = record { 0 = 0 }
at_of (t ∷ ts) = t.at

-- its command word, or `?` where it begins with none
abbrev pub word_of : List Token → List ℕ
word_of [] = codes "?"
word_of (t ∷ ts) = if begins t then t.text else codes "?"

-- the command that a piece is read as
pub record IsCommand (ts : List Token) (c : Command) : Type 0 where
  pub at : c.at ≡ at_of ts
  pub word : c.word ≡ word_of ts
  pub reading : IsReading c.reading (lexemes_of ts)

-- a place is that of the begin or the end of one of the tokens
abbrev pub HasPlace : Pos → List Token → Type 0
HasPlace p [] = ⊥
HasPlace p (t ∷ ts) = ((p ≡ t.at) ⊎ (p ≡ t.end)) ⊎ HasPlace p ts

abbrev pub IsPlaced : Reading → List Token → Type 0
IsPlaced (reading.Form f) ts = Unit {0}
IsPlaced (reading.Unreadable p) ts = HasPlace p ts
