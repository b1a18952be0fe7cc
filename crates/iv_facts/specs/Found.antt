-- What a reader of tokens finds, by the next tokens. Of this project.
use Rattle.std.specs.Prelude.{◌≡◌, ◌⊎◌, List, [], ◌∷◌, ◌++◌, Bool, false, Option, Some, None, if◌then◌else◌}
use Rattle.iv_text.specs.declared.Pos.{Pos}
use Rattle.iv_recogniser.specs.declared.class.Sort.{Sort}
use Rattle.iv_recogniser.specs.Class.{has}
use Rattle.iv_forms.specs.declared.lexeme.Lexeme.{Lexeme}
use Rattle.iv_facts.specs.declared.stop.Stop.{Stop}
use Rattle.iv_facts.specs.declared.stop.Stop.TheVariants as stop

-- where the first of some tokens begins
abbrev pub place_of : List Lexeme → Pos
place_of [] = record { 0 = 0 }
place_of (t ∷ ts) = t.token.at

-- whether a token begins at that place
abbrev pub IsAmong : Pos → List Lexeme → Type 0
IsAmong p [] = ⊥
IsAmong p (t ∷ ts) = (p ≡ t.token.at) ⊎ IsAmong p ts

-- a place, where there is one, is that of a token
pub data Placed (ts : List Lexeme) : Option Pos → Type 0 where
  nowhere : Placed ts None
  there : {p : Pos} → IsAmong p ts → Placed ts (Some p)

-- a value and the tokens behind what it was read from, no form, or a part with too many levels and where that begins
pub data Found (A : Type 0) : Type 0 where
  got : A → List Lexeme → Found A
  wrong : Found A
  deep : Pos → Found A

-- what is read next, from the value and the tokens behind
unfoldable pub then_ : {A B : Type 0} → Found A → (A → List Lexeme → Found B) → Found B
then_ (got x us) next = next x us
then_ wrong next = wrong
then_ (deep p) next = deep p

-- a part with a limit of its own is too deep where it begins
unfoldable pub part_at : {A : Type 0} → List Lexeme → Found A → Found A
part_at ts (got x us) = got x us
part_at ts wrong = wrong
part_at ts (deep p) = deep (place_of ts)

-- a value, or the place of the first part in it that is too deep
abbrev pub unless_deep : {A : Type 0} → Option Pos → A → List Lexeme → Found A
unless_deep None x us = got x us
unless_deep (Some p) x us = deep p

-- its cause
abbrev pub stop_at : Stop → List Lexeme → Stop
stop_at stop.Syntax ts = stop.Syntax
stop_at (stop.Deep p) ts = stop.Deep (place_of ts)
stop_at stop.Memory ts = stop.Memory

-- whether a reader that found this may stop for that cause
abbrev pub IsStop : {A : Type 0} → Stop → Found A → Type 0
IsStop stop.Syntax found = found ≡ wrong
IsStop (stop.Deep p) found = found ≡ deep p
IsStop stop.Memory found = Unit {0}

-- whether the next token is one of a set
abbrev pub begins : Sort → List Lexeme → Bool
begins k [] = false
begins k (t ∷ ts) = has k t.class

-- the tokens behind the next one
abbrev pub behind : List Lexeme → List Lexeme
behind [] = []
behind (t ∷ ts) = ts

-- the next token, of a set
abbrev pub one : Sort → List Lexeme → Found Lexeme
one k [] = wrong
one k (t ∷ ts) = if has k t.class then got t ts else wrong

-- values behind those that were found, as long as the tokens go on with one; the first list says how many may come
unfoldable pub many : {A : Type 0} → (List Lexeme → Bool) → (List Lexeme → Found A) → List A → List Lexeme → List Lexeme → Found (List A)
many goes item found [] ts = got found ts
many goes item found (_ ∷ steps) ts = if goes ts then then_ (item ts) (λ x us. many goes item (found ++ x ∷ []) steps us) else got found ts

-- a value that is built up, as long as the tokens go on with a part of it; the list says how many may come
unfoldable pub fold : {A : Type 0} → (List Lexeme → Bool) → (A → List Lexeme → Found A) → A → List Lexeme → List Lexeme → Found A
fold goes part x [] ts = got x ts
fold goes part x (_ ∷ steps) ts = if goes ts then then_ (part x ts) (λ y us. fold goes part y steps us) else got x ts
