-- The place of a refusal is one of the piece's tokens.
use Rattle.std.proofs.Common.{◌≡◌, ℕ, zero, suc, ◌<◌, List, [], ◌∷◌, ◌++◌, length, map, Bool, true, false, refl, arith, inl, inr, length-append}
use Rattle.std.specs.Prelude.{Some, ◌⊎◌, if◌then◌else◌, nat_lt, encode_utf8_all}
use Rattle.iv_text.specs.declared.Pos.{Pos}
use Rattle.iv_lex.specs.declared.cutting.Token.{Token}
use Rattle.iv_lex.specs.Token.{tokens_of}
use Rattle.iv_recogniser.specs.declared.class.Class.{Class}
use Rattle.iv_recogniser.specs.declared.class.Class.TheVariants as class
use Rattle.iv_forms.specs.declared.command.Body.{Body}
use Rattle.iv_forms.specs.declared.lexeme.Lexeme.{Lexeme}
use Rattle.iv_forms.specs.CommandForm.{IsForm}
use Rattle.iv_read.specs.FormLevels.{deep_form}
use Rattle.iv_facts.specs.Found.{IsAmong}
use Rattle.iv_outer.specs.declared.reading.Reading.{Reading}
use Rattle.iv_outer.specs.declared.reading.Reading.TheVariants as reading
use Rattle.iv_outer.specs.Classify.{lexeme_of}
use Rattle.iv_outer.specs.Opened.{placed, inside, is_case, opened_cartouche, open_once, opened, longest, lexemes_of}
use Rattle.iv_outer.specs.Unreadable.{place_at, end_of}
use Rattle.iv_outer.specs.Command.{HasPlace, IsPlaced, IsReading}

-- a token of the list has these two places
abbrev Stems : Pos → Pos → List Token → Type 0
Stems p q [] = ⊥
Stems p q (t ∷ ts) = ((p ≡ t.at) × (q ≡ t.end)) ⊎ Stems p q ts

-- each of the lexemes has both places of one of the tokens
data Placed (ts : List Token) : List Lexeme → Type 0 where
  none : Placed ts []
  more : {l : Lexeme} {ls : List Lexeme} → Stems l.token.at l.token.end ts → Placed ts ls → Placed ts (l ∷ ls)

joined : {ts : List Token} {ls ms : List Lexeme} → Placed ts ls → Placed ts ms → Placed ts (ls ++ ms)
joined none q = q
joined (more s p) q = more s (joined p q)

further : {t : Token} {ts : List Token} {ls : List Lexeme} → Placed ts ls → Placed (t ∷ ts) ls
further none = none
further (more s p) = more (inr s) (further p)

plain : (ts : List Token) → Placed ts (map lexeme_of ts)
plain [] = none
plain (t ∷ ts) = more (inl (refl, refl)) (further (plain ts))

all_there : {ts : List Token} (c : Token) (us : List Token) → Stems c.at c.end ts → Placed ts (map (λ t. lexeme_of (placed c t)) us)
all_there c [] s = none
all_there c (u ∷ us) s = more s (all_there c us s)

insides : {ts : List Token} (c : Token) → Stems c.at c.end ts → Placed ts (inside c)
insides c s = more s (joined (all_there c (tokens_of (encode_utf8_all c.text)) s) (more s none))

of_cartouche : {ts : List Token} (b : Bool) (l : Lexeme) → Stems l.token.at l.token.end ts → Placed ts (if b then inside l.token else (l ∷ []))
of_cartouche true l s = insides l.token s
of_cartouche false l s = more s none

of_lexeme : {ts : List Token} (b : Bool) (l : Lexeme) → Stems l.token.at l.token.end ts → Placed ts (if b then opened_cartouche l else (l ∷ []))
unfolding opened_cartouche
of_lexeme true l s = of_cartouche (nat_lt (length (encode_utf8_all l.token.text)) 4294967296) l s
of_lexeme false l s = more s none

once : {ts : List Token} (before : Class) {ls : List Lexeme} → Placed ts ls → Placed ts (open_once before ls)
once before none = none
once before (more {l = l} s p) = joined (of_lexeme (is_case before l) l s) (once l.class p)

often : {ts : List Token} (n : ℕ) {ls : List Lexeme} → Placed ts ls → Placed ts (opened n ls)
often zero p = p
often (suc n) p = often n (once class.Other p)

all_placed : (ts : List Token) → Placed ts (lexemes_of ts)
unfolding lexemes_of
all_placed ts = often (longest 0 ts) (plain ts)

begun : (p q : Pos) (ts : List Token) → Stems p q ts → HasPlace p ts
begun p q [] s = s
begun p q (t ∷ ts) (inl e) = inl (inl e.0)
begun p q (t ∷ ts) (inr s) = inr (begun p q ts s)

ended : (p q : Pos) (ts : List Token) → Stems p q ts → HasPlace q ts
ended p q [] s = s
ended p q (t ∷ ts) (inl e) = inl (inr e.1)
ended p q (t ∷ ts) (inr s) = inr (ended p q ts s)

at_place : {ts : List Token} (k : ℕ) {ls : List Lexeme} → Placed ts ls → k < length ls → HasPlace (place_at k ls) ts
at_place k none b = absurd (omega (arith, b))
at_place {ts = ts} zero (more {l = l} s p) b = begun l.token.at l.token.end ts s
at_place (suc k) (more s p) b = at_place k p (omega (arith, b))

at_end : {ts : List Token} {ls : List Lexeme} → Placed ts ls → 0 < length ls → HasPlace (end_of ls) ts
at_end none b = absurd (omega (arith, b))
at_end {ts = ts} {ls = l ∷ []} (more s q) b = ended l.token.at l.token.end ts s
at_end {ls = l ∷ (m ∷ ms)} (more s q) b = at_end q (omega (arith))

-- some tokens are some lexemes
some_in : (b : Bool) (l : Lexeme) → 0 < length (if b then inside l.token else (l ∷ []))
some_in true l = omega (arith)
some_in false l = omega (arith)

some_of : (b : Bool) (l : Lexeme) (ms : List Lexeme) → 0 < length ((if b then opened_cartouche l else (l ∷ [])) ++ ms)
unfolding opened_cartouche
some_of true l ms = rw (length-append (opened_cartouche l) ms) (omega (arith, some_in (nat_lt (length (encode_utf8_all l.token.text)) 4294967296) l))
some_of false l ms = omega (arith)

some_once : (before : Class) (ls : List Lexeme) → 0 < length ls → 0 < length (open_once before ls)
some_once before [] b = absurd (omega (arith, b))
some_once before (l ∷ ls) b = some_of (is_case before l) l (open_once l.class ls)

some_often : (n : ℕ) (ls : List Lexeme) → 0 < length ls → 0 < length (opened n ls)
some_often zero ls b = b
some_often (suc n) ls b = some_often n (open_once class.Other ls) (some_once class.Other ls b)

some_lexemes : (ts : List Token) → 0 < length ts → 0 < length (lexemes_of ts)
unfolding lexemes_of
some_lexemes [] b = absurd (omega (arith, b))
some_lexemes (t ∷ ts) b = some_often (longest 0 (t ∷ ts)) (lexeme_of t ∷ map lexeme_of ts) (omega (arith))

abbrev pub DeepLaw : Type 0
DeepLaw = (f : Body) (ts us : List Lexeme) (d : IsForm f ts us) (p : Pos) → deep_form d ≡ Some p → IsAmong p ts

among : (p : Pos) {ts : List Token} (ls : List Lexeme) → Placed ts ls → IsAmong p ls → HasPlace p ts
among p [] q a = absurd a
among p {ts = ts} (l ∷ ls) (more s q) (inl e) = rw e (begun l.token.at l.token.end ts s)
among p (l ∷ ls) (more s q) (inr a) = among p ls q a

pub placed_reading : DeepLaw → (ts : List Token) (r : Reading) → 0 < length ts → IsReading r (lexemes_of ts) → IsPlaced r ts
placed_reading law ts (reading.Form f) b r = tt
placed_reading law ts (reading.Unreadable p) b (inl (inl r)) = rw r.2 (at_place r.0 (all_placed ts) r.1.0)
placed_reading law ts (reading.Unreadable p) b (inl (inr r)) = rw r.2 (at_end (all_placed ts) (some_lexemes ts b))
placed_reading law ts (reading.Unreadable p) b (inr r) = among p (lexemes_of ts) (all_placed ts) (law r.0 (lexemes_of ts) [] r.1 p r.2)
