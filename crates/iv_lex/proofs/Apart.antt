-- Which letters are of no two sorts.
use Rattle.std.proofs.Common.{◌≡◌, ℕ, ◌≤◌, ◌<◌, inl, inr, List, [], ◌∷◌, refl, ap, sym, ◌∙◌, arith}
use Rattle.std.specs.Prelude.{Bool, true, false, not, ◌&&◌, ◌||◌, ◌==◌, Option, None, Some, is_some, find, codes, map, cond}
use Rattle.std.specs.Option.{option_map, option_map_or}
use Rattle.std.specs.List.{list_any, list_all}
use Rattle.std.specs.Char.{is_ascii_digit}
use Rattle.std.proofs.lemmas.Bool.Decides.{nat_tests, leb_tells}
use Rattle.std.proofs.lemmas.Bool.{leb-true}
use Rattle.std.proofs.Math.Dec.{leb}
use Rattle.unicode_ident.specs.Ident.{is_xid_start, is_xid_continue}
use Rattle.unicode_ident.proofs.Computing.{unicode_ident}
use Rattle.unicode_ident.proofs.IdentLemmas.{is_xid_start-ascii, is_xid_start-is_xid_continue}
use Rattle.iv_text.specs.Symbol.{Symbol, symbols, printed_for}
use Rattle.iv_lex.specs.declared.letters.Letter.{Letter}
use Rattle.iv_lex.specs.Letter.{is_some_char, is_char, is_blank, is_start, is_continue, is_digit, is_symbolic, is_sign, is_single}

-- the sorts, of characters
abbrev pub Blanks : ℕ → Bool
Blanks c = ((c == 32 || c == 9) || c == 10) || c == 13

abbrev pub Starts : ℕ → Bool
Starts c = is_xid_start c && not (c == 0x03BB)

abbrev pub Continues : ℕ → Bool
Continues c = (is_xid_continue c || c == 39) && not (c == 0x03BB)

abbrev pub Symbolics : ℕ → Bool
Symbolics c = list_any (λ d. d == c) (codes "!#$%&*+-/<=>?@^_|~")

abbrev pub Signs : ℕ → Bool
Signs c = is_some (printed_for c)

abbrev pub Singles : ℕ → Bool
Singles c = list_any (λ d. d == c) (codes "()[]{},;:.")

abbrev sign_chars : List ℕ
sign_chars = 0x22C0 ∷ 0x27F9 ∷ 0x2261 ∷ 0x03BB ∷ 0x21D2 ∷ 0x27E6 ∷ 0x27E7 ∷ 0x2039 ∷ 0x203A ∷ 0x00A6 ∷ []

-- no character is of both sorts
abbrev Apart : (ℕ → Bool) → (ℕ → Bool) → Type 0
Apart p q = (c : ℕ) → p c ≡ true → q c ≡ false

by_value : (p q : ℕ → Bool) → Apart p q → (v : Option ℕ) → option_map_or p v false ≡ true → option_map_or q v false ≡ false
by_value p q f None e = refl
by_value p q f (Some c) e = f c e

-- so no letter is
letter_apart : (p q : ℕ → Bool) → Apart p q → (l : Letter) → is_some_char p l ≡ true → is_some_char q l ≡ false
letter_apart p q f l e = by_value p q f l.value e

pub same : (a b : ℕ) → (a == b) ≡ true → a ≡ b
same a b e = grind (arith, nat_tests)

-- one character, against a sort that it isn't of
is_other : (k : ℕ) (p : ℕ → Bool) → p k ≡ false → Apart p (λ c. c == k)
is_other k p h c e = other_by (c == k) refl
  where
    other_by : (v : Bool) → (c == k) ≡ v → v ≡ false
    other_by true g = let bad : p k ≡ true = ap p (sym (same c k g)) ∙ e in cc
    other_by false g = refl

one_other : (k : ℕ) (q : ℕ → Bool) → q k ≡ false → Apart (λ c. c == k) q
one_other k q h c e = rw (same c k e) h

-- the characters of a list, against a sort that none is of
no_by : (p : ℕ → Bool) (d c : ℕ) (rest others : Bool) (v w : Bool) → p c ≡ true → (d == c) ≡ v → p d ≡ w → (not w && rest) ≡ true → (rest ≡ true → others ≡ false) → (v || others) ≡ false
no_by p d c rest others true true e g k n f = absurd (let bad : ⊥ = cc in bad)
no_by p d c rest others true false e g k n f = let a : p d ≡ true = ap p (same d c g) ∙ e in absurd (let bad : ⊥ = cc in bad)
no_by p d c rest others false true e g k n f = absurd (let bad : ⊥ = cc in bad)
no_by p d c rest others false false e g k n f = f n

no_other : (p : ℕ → Bool) (cs : List ℕ) → list_all (λ c. not (p c)) cs ≡ true → Apart p (λ c. list_any (λ d. d == c) cs)
no_other p [] h c e = refl
no_other p (d ∷ ds) h c e = no_by p d c (list_all (λ c. not (p c)) ds) (list_any (λ e. e == c) ds) (d == c) (p d) e refl refl h (λ n. no_other p ds n c e)

or_false : (a b : Bool) → a ≡ false → b ≡ false → (a || b) ≡ false
or_false a b e f = rw (e, f) refl

blanks_apart : (p : ℕ → Bool) → p 32 ≡ false → p 9 ≡ false → p 10 ≡ false → p 13 ≡ false → Apart p Blanks
blanks_apart p a b d f c e =
    or_false _ _ (or_false _ _ (or_false _ _ (is_other 32 p a c e) (is_other 9 p b c e)) (is_other 10 p d c e)) (is_other 13 p f c e)

or_true : (a : Bool) → (a || true) ≡ true
or_true true = refl
or_true false = refl

same_refl : (c : ℕ) → (c == c) ≡ true
same_refl c = grind (arith, nat_tests)

turned : (p q : ℕ → Bool) → Apart p q → Apart q p
turned p q f c e = turned_by (p c) refl
  where
    turned_by : (v : Bool) → p c ≡ v → v ≡ false
    turned_by true g = let bad : q c ≡ false = f c g in cc
    turned_by false g = refl

-- a character of the table is one of ten
sign_case : (v : Bool) (c : ℕ) (s : Symbol) (others rest : Bool) → (c == s.character) ≡ v → (v ≡ false → others ≡ true) → ((s.character == c) || others) ≡ true
sign_case true c s others rest g f = let e : c ≡ s.character = same c s.character g in let h : (s.character == c) ≡ true = rw (← e) (same_refl c) in rw h refl
sign_case false c s others rest g f = rw (f refl) (or_true (s.character == c))

found_in : (v : Bool) (s : Symbol) (o : Option Symbol) → is_some (option_map (λ s. s.printed) (cond v (Some s) o)) ≡ true → v ≡ false → is_some (option_map (λ s. s.printed) o) ≡ true
found_in true s o e f = absurd (let bad : ⊥ = cc in bad)
found_in false s o e f = e

sign_by : (c : ℕ) (rows : List Symbol) → is_some (option_map (λ s. s.printed) (find (λ s. c == s.character) rows)) ≡ true → list_any (λ d. d == c) (map (λ s. s.character) rows) ≡ true
sign_by c [] e = cc
sign_by c (s ∷ rows) e = sign_case (c == s.character) c s (list_any (λ d. d == c) (map (λ s. s.character) rows)) false refl (λ f. sign_by c rows (found_in (c == s.character) s (find (λ s. c == s.character) rows) e f))

signs_apart : (q : ℕ → Bool) → list_all (λ c. not (q c)) sign_chars ≡ true → Apart Signs q
signs_apart q h c e = turned q (λ c. list_any (λ d. d == c) sign_chars) (no_other q sign_chars h) c (sign_by c symbols e)

-- a letter of a sort, against one character, and the blanks
pub other : (k : ℕ) (p : ℕ → Bool) → p k ≡ false → (l : Letter) → is_some_char p l ≡ true → is_char k l ≡ false
other k p h = letter_apart p (λ c. c == k) (is_other k p h)

pub known : (k : ℕ) (q : ℕ → Bool) → q k ≡ false → (l : Letter) → is_char k l ≡ true → is_some_char q l ≡ false
known k q h = letter_apart (λ c. c == k) q (one_other k q h)

pub no_blank : (p : ℕ → Bool) → p 32 ≡ false → p 9 ≡ false → p 10 ≡ false → p 13 ≡ false → (l : Letter) → is_some_char p l ≡ true → is_blank l ≡ false
no_blank p a b d f = letter_apart p Blanks (blanks_apart p a b d f)

-- a letter that opens nothing
pub record Opens_nothing (l : Letter) : Type 0 where
  pub blank : is_blank l ≡ false
  pub paren : is_char 40 l ≡ false
  pub slash : is_char 92 l ≡ false
  pub angle : is_char 0x2039 l ≡ false
  pub quote : is_char 34 l ≡ false

-- a letter that begins neither a name nor a number nor a variable
pub record No_word (l : Letter) : Type 0 where
  pub start : is_start l ≡ false
  pub digit : is_digit l ≡ false
  pub mark : is_char 63 l ≡ false
  pub tick : is_char 39 l ≡ false

pub start_opens : (l : Letter) → is_start l ≡ true → Opens_nothing l
unfolding unicode_ident
start_opens l e = record {
  blank = no_blank Starts refl refl refl refl l e;
  paren = other 40 Starts refl l e;
  slash = other 92 Starts refl l e;
  angle = other 0x2039 Starts refl l e;
  quote = other 34 Starts refl l e;
}

pub start_continues : (l : Letter) → is_start l ≡ true → is_continue l ≡ true
start_continues l e = continues_by l.value e
  where
    continues_char : (c : ℕ) (x y z : Bool) → (x ≡ true → y ≡ true) → (x && z) ≡ true → ((y || (c == 39)) && z) ≡ true
    continues_char c true y z f e = rw (f refl) e
    continues_char c false y z f e = cc

    continues_by : (v : Option ℕ) → option_map_or Starts v false ≡ true → option_map_or Continues v false ≡ true
    continues_by None e = e
    continues_by (Some c) e = continues_char c (is_xid_start c) (is_xid_continue c) (not (c == 0x03BB)) (is_xid_start-is_xid_continue c) e

pub continue_no_dot : (l : Letter) → is_continue l ≡ true → is_char 46 l ≡ false
unfolding unicode_ident
continue_no_dot = other 46 Continues refl

pub dot_no_continue : (l : Letter) → is_char 46 l ≡ true → is_continue l ≡ false
unfolding unicode_ident
dot_no_continue = known 46 Continues refl

pub slash_no_quote : (l : Letter) → is_char 92 l ≡ true → is_char 34 l ≡ false
slash_no_quote = known 92 (λ c. c == 34) refl

pub digit_opens : (l : Letter) → is_digit l ≡ true → Opens_nothing l
digit_opens l e = record {
  blank = no_blank is_ascii_digit refl refl refl refl l e;
  paren = other 40 is_ascii_digit refl l e;
  slash = other 92 is_ascii_digit refl l e;
  angle = other 0x2039 is_ascii_digit refl l e;
  quote = other 34 is_ascii_digit refl l e;
}

no_le : (a b : ℕ) → b < a → leb a b ≡ false
no_le a b h = elim (leb_tells a b) [ inl x ↦ absurd (omega (arith, x.1, h)) | inr y ↦ y.0 ]

below : (b c : Bool) → (b && c) ≡ true → c ≡ true
below true c e = e
below false c e = cc

digits_apart : Apart is_ascii_digit Starts
digits_apart c e =
    let most : c ≤ 57 = leb-true c 57 (below _ (leb c 57) e) in
    let few : c < 128 = omega (arith, most) in
    let upper : leb 65 c ≡ false = no_le 65 c (omega (arith, most)) in
    let lower : leb 97 c ≡ false = no_le 97 c (omega (arith, most)) in
    rw (is_xid_start-ascii c few, upper, lower) refl

pub digit_no_start : (l : Letter) → is_digit l ≡ true → is_start l ≡ false
digit_no_start = letter_apart is_ascii_digit Starts digits_apart

pub symbolic_opens : (l : Letter) → is_symbolic l ≡ true → Opens_nothing l
symbolic_opens l e = record {
  blank = no_blank Symbolics refl refl refl refl l e;
  paren = other 40 Symbolics refl l e;
  slash = other 92 Symbolics refl l e;
  angle = other 0x2039 Symbolics refl l e;
  quote = other 34 Symbolics refl l e;
}

pub symbolic_no_start : (l : Letter) → is_symbolic l ≡ true → is_start l ≡ false
unfolding unicode_ident
symbolic_no_start = letter_apart Symbolics Starts (turned Starts Symbolics (no_other Starts (codes "!#$%&*+-/<=>?@^_|~") refl))

pub symbolic_no_digit : (l : Letter) → is_symbolic l ≡ true → is_digit l ≡ false
symbolic_no_digit = letter_apart Symbolics is_ascii_digit (turned is_ascii_digit Symbolics (no_other is_ascii_digit (codes "!#$%&*+-/<=>?@^_|~") refl))

pub symbolic_no_sign : (l : Letter) → is_symbolic l ≡ true → is_sign l ≡ false
symbolic_no_sign = letter_apart Symbolics Signs (turned Signs Symbolics (no_other Signs (codes "!#$%&*+-/<=>?@^_|~") refl))

pub sign_no_word : (l : Letter) → is_sign l ≡ true → No_word l
unfolding unicode_ident
sign_no_word l e = record {
  start = letter_apart Signs Starts (signs_apart Starts refl) l e;
  digit = letter_apart Signs is_ascii_digit (signs_apart is_ascii_digit refl) l e;
  mark = other 63 Signs refl l e;
  tick = other 39 Signs refl l e;
}

pub sign_no_blank : (l : Letter) → is_sign l ≡ true → is_blank l ≡ false
sign_no_blank = no_blank Signs refl refl refl refl

pub single_no_word : (l : Letter) → is_single l ≡ true → No_word l
unfolding unicode_ident
single_no_word l e = record {
  start = letter_apart Singles Starts (turned Starts Singles (no_other Starts (codes "()[]{},;:.") refl)) l e;
  digit = letter_apart Singles is_ascii_digit (turned is_ascii_digit Singles (no_other is_ascii_digit (codes "()[]{},;:.") refl)) l e;
  mark = other 63 Singles refl l e;
  tick = other 39 Singles refl l e;
}

pub single_no_blank : (l : Letter) → is_single l ≡ true → is_blank l ≡ false
single_no_blank = no_blank Singles refl refl refl refl

pub single_no_sign : (l : Letter) → is_single l ≡ true → is_sign l ≡ false
single_no_sign = letter_apart Singles Signs (turned Signs Singles (no_other Signs (codes "()[]{},;:.") refl))

pub single_no_symbolic : (l : Letter) → is_single l ≡ true → is_symbolic l ≡ false
single_no_symbolic = letter_apart Singles Symbolics (turned Symbolics Singles (no_other Symbolics (codes "()[]{},;:.") refl))
