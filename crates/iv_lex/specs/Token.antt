-- The tokens of a document. After the outer syntax of Isabelle's Reference Manual, in a profile of this project.
use Rattle.std.specs.Prelude.{ℕ, zero, suc, ◌-◌, List, [], ◌∷◌, ◌++◌, length, take, Bool, Option, Some, None, option_to_list, if◌then◌else◌, is_some, unwrap_or}
use Rattle.std.specs.Option.{option_map}
use Rattle.std.specs.List.{list_any, list_all}
use Rattle.iv_text.specs.declared.Pos.{Pos}
use Rattle.iv_lex.specs.declared.letters.Letter.{Letter}
use Rattle.iv_lex.specs.declared.starts.Start.{Start}
use Rattle.iv_lex.specs.declared.starts.Start.TheVariants as start
use Rattle.iv_lex.specs.declared.cutting.Kind.{Kind}
use Rattle.iv_lex.specs.declared.cutting.Kind.TheVariants.{Ident, Long, Nat, Var, Tvar, Str, Cart, Sym, Single, Bad}
use Rattle.iv_lex.specs.declared.cutting.Token.{Token}
use Rattle.iv_lex.specs.Letter.{is_char, letters_of}
use Rattle.iv_lex.specs.Start.{start_at, measured}
use Rattle.iv_lex.specs.Spelling.{text_of}

-- whether all of the letters are characters
abbrev pub all_chars : List Letter → Bool
all_chars ls = list_all (λ l. is_some l.value) ls

-- the kind of the token that these letters are, of a form that is closed; nothing where they are a blank or a comment
abbrev pub kind_by : Start → List Letter → Option Kind
kind_by start.Blank ls = None
kind_by start.Comment ls = None
kind_by start.Cartouche ls = Some (if all_chars ls then Cart else Bad)
kind_by start.Quote ls = Some (if all_chars ls then Str else Bad)
kind_by start.Name ls = Some (if list_any (is_char 46) ls then Long else Ident)
kind_by start.Digits ls = Some Nat
kind_by start.Variable ls = Some Var
kind_by start.TypeVariable ls = Some Tvar
kind_by start.Named ls = Some Sym
kind_by start.Sign ls = Some Sym
kind_by start.Run ls = Some Sym
kind_by start.Double ls = Some Single
kind_by start.Single ls = Some Single
kind_by start.Nothing ls = Some Bad

-- how many letters belong to what begins here: all where it isn't closed
unfoldable pub count_at : List Letter → ℕ
count_at ls = unwrap_or (measured (start_at ls) ls) (length ls)

-- the kind of the token that begins here, if one does: what isn't closed is a bad token
unfoldable pub kind_at : List Letter → Option Kind
kind_at ls = if is_some (measured (start_at ls) ls) then kind_by (start_at ls) (take (count_at ls) ls) else Some Bad

-- where the first of some letters begins
abbrev pub first_at : List Letter → Pos
first_at [] = record { 0 = 0 }
first_at (l ∷ ls) = l.at

-- where the last of some letters ends
abbrev pub last_end : List Letter → Pos
last_end [] = record { 0 = 0 }
last_end (l ∷ []) = l.end
last_end (l ∷ m ∷ ls) = last_end (m ∷ ls)

-- the token of this kind that is made of some letters
unfoldable pub token_of : Kind → List Letter → Token
token_of kind ls = record { kind = kind; text = text_of kind ls; at = first_at ls; end = last_end ls }

-- the token of this kind that is made of some letters, or none
abbrev pub token_list : Option Kind → List Letter → List Token
token_list kind ls = option_to_list (option_map (λ k. token_of k ls) kind)

-- the tokens that begin in these letters; the first `inside` of them belong to the token, blank or comment before
abbrev pub tokens_from : ℕ → List Letter → List Token
tokens_from inside [] = []
tokens_from (suc inside) (l ∷ ls) = tokens_from inside ls
tokens_from zero (l ∷ ls) = token_list (kind_at (l ∷ ls)) (take (count_at (l ∷ ls)) (l ∷ ls)) ++ tokens_from (count_at (l ∷ ls) - 1) ls

-- the tokens of a document
abbrev pub tokens_of : List ℕ → List Token
tokens_of bytes = tokens_from 0 (letters_of bytes)
