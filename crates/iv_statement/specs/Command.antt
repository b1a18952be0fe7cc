-- The commands of a document, and what is built of them. Of this project.
use Rattle.std.specs.Prelude.{◌≡◌, ◌≤◌, ◌<◌, ◌+◌, ℕ, Bool, true, false, not, length, List, [], ◌∷◌, map, take, drop, if◌then◌else◌, codes, Option, Some, None}
use Rattle.std.specs.Str.{bytes_eq}
use Rattle.iv_text.specs.declared.Pos.{Pos}
use Rattle.iv_lex.specs.declared.cutting.Kind.{Kind}
use Rattle.iv_lex.specs.declared.cutting.Kind.TheVariants as kind
use Rattle.iv_lex.specs.declared.cutting.Token.{Token}
use Rattle.iv_lex.specs.Token.{tokens_of}
use Rattle.iv_forms.specs.declared.command.Body.{Body}
use Rattle.iv_forms.specs.declared.command.Body.TheVariants as body
use Rattle.iv_outer.specs.declared.pieces.Piece.{Piece}
use Rattle.iv_outer.specs.declared.reading.Command.{Command as Read}
use Rattle.iv_outer.specs.declared.reading.Reading.{Reading}
use Rattle.iv_outer.specs.declared.reading.Reading.TheVariants as reading
use Rattle.iv_outer.specs.Piece.{pieces_of}
use Rattle.iv_outer.specs.Command.{IsCommand, HasPlace}
use Rattle.iv_statement.specs.declared.commands.Form.{Form}
use Rattle.iv_statement.specs.declared.commands.Form.TheVariants as form
use Rattle.iv_statement.specs.declared.commands.Command.{Command}
use Rattle.iv_statement.specs.Reading.{reading_of}

-- What is built of a form is seen by its tokens, since a typed command keeps no place of a `[` or `(` that isn't built.

-- whether a token may be a name: its kind is that of identifiers or of several with dots between them, words of the language too
abbrev pub names_kind : Kind → Bool
names_kind kind.Ident = true
names_kind kind.Long = true
names_kind _ = false

abbrev pub is_name : Token → Bool
is_name t = names_kind t.kind

-- whether a token holds a text: it is a string or a cartouche
abbrev pub quotes_kind : Kind → Bool
quotes_kind kind.Str = true
quotes_kind kind.Cart = true
quotes_kind _ = false

abbrev pub is_quoted : Token → Bool
is_quoted t = quotes_kind t.kind

-- whether a token is the delimiter `:`
abbrev pub colon_as : Kind → List ℕ → Bool
colon_as kind.Single text = bytes_eq text (codes ":")
colon_as _ text = false

abbrev pub is_colon : Token → Bool
is_colon t = colon_as t.kind t.text

-- whether a token is the delimiter `[`
abbrev pub left_as : Kind → List ℕ → Bool
left_as kind.Single text = bytes_eq text (codes "[")
left_as _ text = false

abbrev pub is_left : Token → Bool
is_left t = left_as t.kind t.text

-- whether a token is the word `assumption`
abbrev pub assumption_as : Kind → List ℕ → Bool
assumption_as kind.Ident text = bytes_eq text (codes "assumption")
assumption_as _ text = false

abbrev pub is_assumption : Token → Bool
is_assumption t = assumption_as t.kind t.text

-- the part that begins at this token isn't built
abbrev pub unbuilt : Token → Form
unbuilt t = form.Unreadable t.at

-- a lemma of this name, if its proposition reads and no token is behind it
abbrev pub lemma_form : List ℕ → Token → Option (List (List ℕ)) → List Token → Form
lemma_form name text None rest = unbuilt text
lemma_form name text (Some parts) [] = form.Lemma name parts
lemma_form name text (Some parts) (t ∷ ts) = unbuilt t

-- what is built behind NAME `:`
abbrev pub stated_form : Token → Token → List Token → Form
stated_form name text rest = if is_quoted text then lemma_form name.text text (reading_of text.text) rest else unbuilt text

-- what is built where a name may stand before `:` or `[`
abbrev pub labelled_form : Token → Token → Token → List Token → Form
labelled_form name mark text rest =
    if is_name name then (if is_colon mark then stated_form name text rest else (if is_left mark then unbuilt mark else unbuilt name)) else unbuilt name

-- what is built of `lemma`, by the tokens behind it
abbrev pub lemma_of : Token → List Token → Form
lemma_of word [] = unbuilt word
lemma_of word (name ∷ []) = unbuilt name
lemma_of word (name ∷ mark ∷ []) = unbuilt name
lemma_of word (name ∷ mark ∷ text ∷ rest) = labelled_form name mark text rest

-- `by assumption`, if no token is behind it
abbrev pub by_form : List Token → Form
by_form [] = form.ByAssumption
by_form (t ∷ ts) = unbuilt t

-- what is built of `by`, by the tokens behind it
abbrev pub by_of : Token → List Token → Form
by_of word [] = unbuilt word
by_of word (method ∷ rest) = if is_assumption method then by_form rest else unbuilt method

-- the texts of tokens
abbrev pub texts_of : List Token → List (List ℕ)
texts_of ts = map (λ t. t.text) ts

-- what is built of a form that reads these tokens
abbrev pub form_of : Body → Token → List Token → Form
form_of (body.Theory name imports) word rest = form.Header (texts_of imports)
form_of body.End word rest = form.End
form_of (body.Chapter text) word rest = form.Prose
form_of (body.Section text) word rest = form.Prose
form_of (body.Subsection text) word rest = form.Prose
form_of (body.Subsubsection text) word rest = form.Prose
form_of (body.Paragraph text) word rest = form.Prose
form_of (body.Subparagraph text) word rest = form.Prose
form_of (body.Prose text) word rest = form.Prose
form_of (body.Txt text) word rest = form.Prose
form_of (body.Lemma statement) word rest = lemma_of word rest
form_of (body.By first second) word rest = by_of word rest
form_of body.Oops word rest = form.Oops
form_of _ word rest = unbuilt word

-- what is built of the reading of a piece; no piece is empty
abbrev pub built_of : Reading → List Token → Form
built_of (reading.Unreadable p) ts = form.Unreadable p
built_of (reading.Form b) [] = form.Unreadable (record { 0 = 0 })
built_of (reading.Form b) (t ∷ ts) = form_of b t ts

-- the command that a piece is read as, with what is built of it
abbrev pub IsBuilt : List Token → Command → Type 0
IsBuilt ts c = (read : Read) × (IsCommand ts read × (c ≡ record { at = read.at; word = read.word; form = built_of read.reading ts }))

-- something holds of each piece with its command
abbrev pub AreEach : (List Token → Command → Type 0) → List (List Token) → List Command → Type 0
AreEach R [] [] = Unit {0}
AreEach R [] (c ∷ cs) = ⊥
AreEach R (ts ∷ tss) [] = ⊥
AreEach R (ts ∷ tss) (c ∷ cs) = R ts c × AreEach R tss cs

-- the tokens of a piece
abbrev pub run_of : List Token → Piece → List Token
run_of tokens p = take p.count (drop p.first tokens)

-- the tokens of each piece
abbrev pub runs_of : List Token → List (List Token)
runs_of tokens = map (run_of tokens) (pieces_of tokens)

-- the commands of a document
abbrev pub IsCommands : List ℕ → List Command → Type 0
IsCommands document cs = AreEach IsBuilt (runs_of (tokens_of document)) cs

-- there are such, and no others
abbrev pub HasCommands : List ℕ → Type 0
HasCommands document = (cs : List Command) × (IsCommands document cs × ((ds : List Command) → IsCommands document ds → ds ≡ cs))

-- where a command begins, or is unreadable
abbrev pub place_in : Pos → Form → Pos
place_in at (form.Unreadable p) = p
place_in at _ = at

-- all that is known of the one command that a piece is read as
pub record IsRead (ts : List Token) (c : Command) : Type 0 where
  pub built : IsBuilt ts c
  pub only : (d : Command) → IsBuilt ts d → d ≡ c
  pub placed : HasPlace (place_in c.at c.form) ts

-- a piece is not empty, and lies in the list
pub record IsRun (tokens : List Token) (p : Piece) : Type 0 where
  pub nonempty : 0 < p.count
  pub inside : p.first + p.count ≤ length tokens

-- a command begins no later than another
abbrev pub IsNoLater : Command → Command → Type 0
IsNoLater a b = a.at.0 ≤ b.at.0

-- a command is unreadable no earlier than it begins, and in the document
pub record StandsIn (document : List ℕ) (c : Command) : Type 0 where
  pub forward : c.at.0 ≤ (place_in c.at c.form).0
  pub inside : (place_in c.at c.form).0 ≤ length document
