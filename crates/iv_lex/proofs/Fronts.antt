-- What may stand in front: no form takes more letters than the measure.
use Rattle.std.proofs.Common.{◌≡◌, ◌⊎◌, inl, inr, ℕ, suc, ◌+◌, ◌≤◌, ◌<◌, List, [], ◌∷◌, ◌++◌, length, take, drop, take_while, refl, ap, sym, ◌∙◌, subst, arith, append_assoc, append-nil, length-append, length-drop}
use Rattle.std.specs.Prelude.{Bool, true, false, cond, ◌&&◌, ◌||◌, ◌==◌, nat_lt, codes, Option, None, Some, is_some, unwrap_or}
use Rattle.std.specs.Option.{option_map, option_map_or}
use Rattle.std.specs.List.{list_all}
use Rattle.std.specs.Char.{is_ascii_digit, is_ascii_alphabetic}
use Rattle.std.proofs.Math.Seq.{take-append_seam, drop-append_seam}
use Rattle.std.proofs.lemmas.List.{drop-drop}
use Rattle.std.proofs.lemmas.List.Sums.{take_while-cons}
use Rattle.iv_lex.specs.declared.letters.Letter.{Letter}
use Rattle.iv_lex.specs.declared.nests.Nest.{Nest}
use Rattle.iv_lex.specs.declared.nests.Nest.TheVariants as nest
use Rattle.iv_lex.specs.declared.starts.Start.{Start}
use Rattle.iv_lex.specs.declared.starts.Start.TheVariants.{Blank, Comment, Cartouche, Quote, Name, Digits, Variable, TypeVariable, Named, Sign, Run, Double, Single, Nothing}
use Rattle.iv_lex.specs.declared.cutting.Kind.{Kind}
use Rattle.iv_lex.specs.declared.cutting.Kind.TheVariants as kind
use Rattle.iv_lex.specs.Letter.{is_blank, is_char, is_start, is_continue, is_digit, is_alpha, is_symbolic, is_sign, is_single}
use Rattle.iv_lex.specs.Form.{first_is, spells, opening, is_named, alphas, ident_more, digits_more, symbols_more, name_more, number_more, var_more, string_from, nested_from}
use Rattle.iv_lex.specs.Start.{start_at, measured, or_else, word_start, sign_start}
use Rattle.iv_lex.specs.Token.{all_chars, kind_by, kind_at, count_at}
use Rattle.iv_lex.specs.Shape.{is_ident, is_run, IsLong, IsVar, plain, numbered, IsTypeVar, plain_type, IsString, string, IsWhole, whole, IsSymbol, run, named, sign, IsDelimiter, single, colons, dots, Stands, blank, comment, ident, long, number, variable, type_variable, text, cartouche, symbol, delimiter, unclosed, unclosed_text}
use Rattle.iv_lex.proofs.Apart.{same, Starts, Symbolics, Signs, Singles, Blanks, other, known, start_opens, start_continues, dot_no_continue, digit_opens, digit_no_start, symbolic_opens, symbolic_no_start, symbolic_no_digit, symbolic_no_sign, sign_no_word, sign_no_blank, single_no_word, single_no_blank, single_no_sign, single_no_symbolic}
use Rattle.unicode_ident.proofs.Computing.{unicode_ident}
use Rattle.iv_lex.proofs.Counts.{and_first, and_second, while_all, while_stop, NameFront, ident_named, long_named, ident_no_dot, long_dot, inside_closes, string_is}
use Rattle.iv_lex.proofs.Nestings.{some_one, some_two, walk_open, whole_ends, whole_is, lt_some, opening_fits}

-- whether nothing begins
abbrev pub is_nothing : Start → Bool
is_nothing Nothing = true
is_nothing s = false

-- what the measure says, by what begins
abbrev pub kind_of : Start → Option ℕ → List Letter → Option Kind
kind_of s o ls = cond (is_some o) (kind_by s (take (unwrap_or o (length ls)) ls)) (Some kind.Bad)

pub begun : (s : Start) (ls : List Letter) (o : Option ℕ) → start_at ls ≡ s → measured s ls ≡ o → measured (start_at ls) ls ≡ o
begun s ls o e m = ap (λ s. measured s ls) e ∙ m

pub counted : (s : Start) (ls : List Letter) (o : Option ℕ) → start_at ls ≡ s → measured s ls ≡ o → count_at ls ≡ unwrap_or o (length ls)
unfolding count_at
counted s ls o e m = ap (λ o. unwrap_or o (length ls)) (begun s ls o e m)

pub kinded : (s : Start) (ls : List Letter) (o : Option ℕ) → start_at ls ≡ s → measured s ls ≡ o → kind_at ls ≡ kind_of s o ls
unfolding count_at kind_at
kinded s ls o e m = ap (λ o. kind_of (start_at ls) o ls) (begun s ls o e m) ∙ ap (λ s. kind_of s o ls) e

-- what stands in front takes no more than the measure, and is of its kind where it takes as much
pub record Fits (k : Option Kind) (w rest : List Letter) : Type 0 where
  pub fits : length w ≤ count_at (w ++ rest)
  pub kind : length w ≡ count_at (w ++ rest) → kind_at (w ++ rest) ≡ k
  pub some : is_nothing (start_at (w ++ rest)) ≡ false

pub fits_by : (s : Start) (k : Option Kind) (w rest : List Letter) (n : ℕ) → start_at (w ++ rest) ≡ s → is_nothing s ≡ false → measured s (w ++ rest) ≡ Some n → length w ≤ n → (length w ≡ n → kind_by s w ≡ k) → Fits k w rest
fits_by s k w rest n e some m h f =
    let c : count_at (w ++ rest) ≡ n = counted s (w ++ rest) (Some n) e m in
    record {
      fits = omega (arith, h, c);
      kind = λ is.
          let same : length w ≡ n = is ∙ c in
          let front : take n (w ++ rest) ≡ w = ap (λ i. take i (w ++ rest)) (sym same) ∙ take-append_seam w rest in
          kinded s (w ++ rest) (Some n) e m ∙ (ap (kind_by s) front ∙ f same);
      some = ap is_nothing e ∙ some;
    }

-- what begins where nothing opens
opened_by : (b c : Bool) (n : ℕ) (q : Bool) (s : Start) → b ≡ false → ◌≡◌ {A = ℕ} (cond c 2 0) 0 → n ≡ 0 → q ≡ false → cond b Blank (or_else (cond c Comment (cond (nat_lt 0 n) Cartouche (cond q Quote Nothing))) s) ≡ s
opened_by b true n q s e f g h = absurd (let bad : ⊥ = cc in bad)
opened_by b false n q s e f g h = rw (e, g, h) refl

pub start_open : (l : Letter) (ls : List Letter) → is_blank l ≡ false → opening nest.Comment (l ∷ ls) ≡ 0 → opening nest.Cartouche (l ∷ ls) ≡ 0 → is_char 34 l ≡ false → start_at (l ∷ ls) ≡ or_else (word_start (l ∷ ls)) (sign_start (l ∷ ls))
start_open l ls b c n q = opened_by (is_blank l) (spells (codes "(*") (l ∷ ls)) (opening nest.Cartouche (l ∷ ls)) (is_char 34 l) _ b c n q

pub no_comment : (l : Letter) (ls : List Letter) → is_char 40 l ≡ false → opening nest.Comment (l ∷ ls) ≡ 0
no_comment l ls e = rw e refl

pub no_cartouche : (l : Letter) (ls : List Letter) → is_char 92 l ≡ false → is_char 0x2039 l ≡ false → opening nest.Cartouche (l ∷ ls) ≡ 0
no_cartouche l ls e f = rw (e, f) refl

-- what begins where no word does
pub word_none : (l : Letter) (ls : List Letter) → is_start l ≡ false → is_digit l ≡ false → is_char 63 l ≡ false → is_char 39 l ≡ false → word_start (l ∷ ls) ≡ Nothing
word_none l ls a b c d = rw (a, b, c, d) refl

-- a blank
blank_fits : (l : Letter) (rest : List Letter) → is_blank l ≡ true → Fits None (l ∷ []) rest
blank_fits l rest e = fits_by Blank None (l ∷ []) rest 1 (rw e refl) refl refl (omega arith) (λ _. refl)

-- brackets
pub comment_start : (ls : List Letter) → 0 < opening nest.Comment ls → start_at ls ≡ Comment
comment_start [] h = absurd (omega (arith, h))
comment_start (l ∷ ls) h =
    let e : spells (codes "(*") (l ∷ ls) ≡ true = some_one _ 2 h in
    let b : is_blank l ≡ false = known 40 Blanks refl l (and_first (is_char 40 l) _ e) in
    comment_by (is_blank l) (spells (codes "(*") (l ∷ ls)) _ b e
  where
    comment_by : (b c : Bool) (s : Start) → b ≡ false → c ≡ true → cond b Blank (or_else (cond c Comment s) (or_else (word_start (l ∷ ls)) (sign_start (l ∷ ls)))) ≡ Comment
    comment_by b c s e f = rw (e, f) refl

cartouche_by : (b c : Bool) (n : ℕ) (s t : Start) → b ≡ false → c ≡ false → 0 < n → cond b Blank (or_else (cond c Comment (cond (nat_lt 0 n) Cartouche s)) t) ≡ Cartouche
cartouche_by b c n s t e f h = rw (e, f, lt_some n h) refl

cartouche_letter : (l : Letter) (ls : List Letter) → (spells (codes "\\<open>") (l ∷ ls) ≡ true) ⊎ (is_char 0x2039 l ≡ true) → (is_blank l ≡ false) × (is_char 40 l ≡ false)
cartouche_letter l ls (inl e) = let b = and_first (is_char 92 l) _ e in (known 92 Blanks refl l b, known 92 (λ c. c == 40) refl l b)
cartouche_letter l ls (inr b) = (known 0x2039 Blanks refl l b, known 0x2039 (λ c. c == 40) refl l b)

pub cartouche_start : (ls : List Letter) → 0 < opening nest.Cartouche ls → start_at ls ≡ Cartouche
cartouche_start [] h = absurd (omega (arith, h))
cartouche_start (l ∷ ls) h =
    let no = cartouche_letter l ls (some_two _ _ 7 1 h) in
    let c : spells (codes "(*") (l ∷ ls) ≡ false = rw (no.1) refl in
    cartouche_by (is_blank l) (spells (codes "(*") (l ∷ ls)) (opening nest.Cartouche (l ∷ ls)) _ _ (no.0) c h

-- a whole bracket takes what the measure takes
whole_opens : (n : Nest) (ls rest : List Letter) → IsWhole n ls rest → 0 < opening n ls
whole_opens m ks end (whole n ls mid h b k) = h

whole_counts : (n : Nest) (w rest : List Letter) → IsWhole n (w ++ rest) rest → (c : ℕ) × ((length w ≡ c) × (nested_from n 0 0 (w ++ rest) ≡ Some c))
whole_counts n w rest h =
    let e = whole_ends n (w ++ rest) rest h in
    let p = e.passed in
    (p.count, (omega (arith, p.fits, ap length p.left, length-drop p.count (w ++ rest), length-append w rest), e.ends))

comment_fits : (w rest : List Letter) → IsWhole nest.Comment (w ++ rest) rest → Fits None w rest
comment_fits w rest h =
    let c = whole_counts nest.Comment w rest h in
    fits_by Comment None w rest (c.0) (comment_start (w ++ rest) (whole_opens nest.Comment (w ++ rest) rest h)) refl (c.1.1) (omega (arith, c.1.0)) (λ _. refl)

cartouche_fits : (w rest : List Letter) → IsWhole nest.Cartouche (w ++ rest) rest → Fits (Some (cond (all_chars w) kind.Cart kind.Bad)) w rest
cartouche_fits w rest h =
    let c = whole_counts nest.Cartouche w rest h in
    fits_by Cartouche _ w rest (c.0) (cartouche_start (w ++ rest) (whole_opens nest.Cartouche (w ++ rest) rest h)) refl (c.1.1) (omega (arith, c.1.0)) (λ _. refl)

-- names
pub name_start : (l : Letter) (ls : List Letter) → is_start l ≡ true → start_at (l ∷ ls) ≡ Name
name_start l ls e =
    let o = start_opens l e in
    start_open l ls o.blank (no_comment l ls o.paren) (no_cartouche l ls o.slash o.angle) o.quote ∙ rw e refl

front_fits : (l : Letter) (ls rest : List Letter) (k : Option Kind) → is_start l ≡ true → length ls ≤ name_more (ls ++ rest) → kind_by Name (l ∷ ls) ≡ k → Fits k (l ∷ ls) rest
front_fits l ls rest k e h f =
    fits_by Name k (l ∷ ls) rest (1 + name_more (ls ++ rest)) (name_start l (ls ++ rest) e) refl refl (omega (arith, h)) (λ _. f)

name_fits : (w rest : List Letter) (k : Option Kind) → NameFront w → kind_by Name w ≡ k → Fits k w rest
name_fits w rest k n f =
    subst (λ v. Fits k v rest) (sym n.is) (front_fits n.front n.more rest k n.starts (n.goes rest) (ap (kind_by Name) (sym n.is) ∙ f))

ident_fits : (w rest : List Letter) → is_ident w ≡ true → Fits (Some kind.Ident) w rest
ident_fits w rest h = name_fits w rest _ (ident_named w h) (rw (ident_no_dot w h) refl)

long_fits : (w rest : List Letter) → IsLong w → Fits (Some kind.Long) w rest
long_fits w rest h = name_fits w rest _ (long_named w h) (rw (long_dot w h) refl)

-- numbers
pub digits_start : (l : Letter) (ls : List Letter) → is_digit l ≡ true → start_at (l ∷ ls) ≡ Digits
digits_start l ls e =
    let o = digit_opens l e in
    start_open l ls o.blank (no_comment l ls o.paren) (no_cartouche l ls o.slash o.angle) o.quote ∙ rw (digit_no_start l e, e) refl

number_fits : (w rest : List Letter) → is_run is_digit w ≡ true → Fits (Some kind.Nat) w rest
number_fits [] rest h = cc
number_fits (l ∷ ls) rest h =
    fits_by Digits _ (l ∷ ls) rest (1 + digits_more (ls ++ rest)) (digits_start l (ls ++ rest) (and_first (is_digit l) _ h)) refl refl (omega (arith, while_all is_digit ls rest (and_second (is_digit l) _ h))) (λ _. refl)

-- variables
pub mark_start : (l : Letter) (ls : List Letter) → is_char 63 l ≡ true → first_is is_start ls ≡ true → start_at (l ∷ ls) ≡ Variable
unfolding unicode_ident
mark_start l ls e f =
    start_open l ls (known 63 Blanks refl l e) (no_comment l ls (known 63 (λ c. c == 40) refl l e)) (no_cartouche l ls (known 63 (λ c. c == 92) refl l e) (known 63 (λ c. c == 0x2039) refl l e)) (known 63 (λ c. c == 34) refl l e)
    ∙ rw (known 63 Starts refl l e, known 63 is_ascii_digit refl l e, e, f) refl

pub tick_start : (l : Letter) (ls : List Letter) → is_char 39 l ≡ true → first_is is_start ls ≡ true → start_at (l ∷ ls) ≡ TypeVariable
unfolding unicode_ident
tick_start l ls e f =
    start_open l ls (known 39 Blanks refl l e) (no_comment l ls (known 39 (λ c. c == 40) refl l e)) (no_cartouche l ls (known 39 (λ c. c == 92) refl l e) (known 39 (λ c. c == 0x2039) refl l e)) (known 39 (λ c. c == 34) refl l e)
    ∙ rw (known 39 Starts refl l e, known 39 is_ascii_digit refl l e, known 39 (λ c. c == 63) refl l e, e, f) refl

ident_starts : (a rest : List Letter) → is_ident a ≡ true → first_is is_start (a ++ rest) ≡ true
ident_starts [] rest h = cc
ident_starts (l ∷ ls) rest h = and_first (is_start l) _ h

ident_continues : (a : List Letter) → is_ident a ≡ true → list_all is_continue a ≡ true
ident_continues [] h = cc
ident_continues (l ∷ ls) h = rw (start_continues l (and_first (is_start l) _ h), and_second (is_start l) _ h) refl

var_by : (mark : Letter) (a rest : List Letter) → is_char 63 mark ≡ true → is_ident a ≡ true → Fits (Some kind.Var) (mark ∷ a) rest
var_by mark a rest e h =
    let more : length a ≤ ident_more (a ++ rest) = omega (arith, while_all is_continue a rest (ident_continues a h)) in
    fits_by Variable _ (mark ∷ a) rest (1 + var_more (a ++ rest)) (mark_start mark (a ++ rest) e (ident_starts a rest h)) refl refl (omega (arith, more)) (λ _. refl)

run_goes : (p : Letter → Bool) (n rest : List Letter) → is_run p n ≡ true → (first_is p (n ++ rest) ≡ true) × (length n ≤ length (take_while p (n ++ rest)))
run_goes p [] rest h = cc
run_goes p (l ∷ ls) rest h =
    let one = and_first (p l) _ h in
    let all : list_all p (l ∷ ls) ≡ true = rw (one, and_second (p l) _ h) refl in
    (one, omega (arith, while_all p (l ∷ ls) rest all))

number_goes : (dot : Letter) (n rest : List Letter) → is_char 46 dot ≡ true → is_run is_digit n ≡ true → 1 + length n ≤ number_more (dot ∷ (n ++ rest))
number_goes dot n rest d h =
    let r = run_goes is_digit n rest h in
    let is : number_more (dot ∷ (n ++ rest)) ≡ 1 + digits_more (n ++ rest) = rw (d, r.0) refl in
    omega (arith, is, r.1)

ident_ends : (a : List Letter) (dot : Letter) (ls : List Letter) → is_ident a ≡ true → is_char 46 dot ≡ true → ident_more (a ++ (dot ∷ ls)) ≡ length a
ident_ends a dot ls h d = omega (arith, while_all is_continue a (dot ∷ ls) (ident_continues a h), while_stop is_continue dot ls (dot_no_continue dot d))

numbered_goes : (a : List Letter) (dot : Letter) (n rest : List Letter) → is_ident a ≡ true → is_char 46 dot ≡ true → is_run is_digit n ≡ true → length a + (1 + length n) ≤ var_more (a ++ (dot ∷ (n ++ rest)))
numbered_goes a dot n rest h d r =
    let i : ident_more (a ++ (dot ∷ (n ++ rest))) ≡ length a = ident_ends a dot (n ++ rest) h d in
    let left : drop (ident_more (a ++ (dot ∷ (n ++ rest)))) (a ++ (dot ∷ (n ++ rest))) ≡ dot ∷ (n ++ rest) = ap (λ k. drop k (a ++ (dot ∷ (n ++ rest)))) i ∙ drop-append_seam a (dot ∷ (n ++ rest)) in
    omega (arith, i, ap number_more left, number_goes dot n rest d r)

numbered_by : (mark : Letter) (a : List Letter) (dot : Letter) (n rest : List Letter) → is_char 63 mark ≡ true → is_ident a ≡ true → is_char 46 dot ≡ true → is_run is_digit n ≡ true → Fits (Some kind.Var) (mark ∷ (a ++ (dot ∷ n))) rest
numbered_by mark a dot n rest e h d r =
    let w : List Letter = a ++ (dot ∷ n) in
    let same : w ++ rest ≡ a ++ (dot ∷ (n ++ rest)) = append_assoc a (dot ∷ n) rest in
    let starts : first_is is_start (w ++ rest) ≡ true = ap (first_is is_start) same ∙ ident_starts a (dot ∷ (n ++ rest)) h in
    fits_by Variable _ (mark ∷ w) rest (1 + var_more (w ++ rest)) (mark_start mark (w ++ rest) e starts) refl refl (omega (arith, ap var_more same, numbered_goes a dot n rest h d r, length-append a (dot ∷ n))) (λ _. refl)

variable_fits : (w rest : List Letter) → IsVar w → Fits (Some kind.Var) w rest
variable_fits w rest (plain mark a e h) = var_by mark a rest e h
variable_fits w rest (numbered mark a dot n e h d r) = numbered_by mark a dot n rest e h d r

type_by : (mark : Letter) (a rest : List Letter) → is_char 39 mark ≡ true → is_ident a ≡ true → Fits (Some kind.Tvar) (mark ∷ a) rest
type_by mark a rest e h =
    fits_by TypeVariable _ (mark ∷ a) rest (1 + ident_more (a ++ rest)) (tick_start mark (a ++ rest) e (ident_starts a rest h)) refl refl (omega (arith, while_all is_continue a rest (ident_continues a h))) (λ _. refl)

type_fits : (w rest : List Letter) → IsTypeVar w → Fits (Some kind.Tvar) w rest
type_fits w rest (plain_type mark a e h) = type_by mark a rest e h

-- strings
pub quote_start : (l : Letter) (ls : List Letter) → is_char 34 l ≡ true → start_at (l ∷ ls) ≡ Quote
quote_start l ls e = rw (known 34 Blanks refl l e, known 34 (λ c. c == 40) refl l e, known 34 (λ c. c == 92) refl l e, known 34 (λ c. c == 0x2039) refl l e, e) refl

text_by : (q : Letter) (inside : List Letter) (r : Letter) (rest : List Letter) → is_char 34 q ≡ true → string_from false (inside ++ (r ∷ rest)) ≡ Some (suc (length inside)) → Fits (Some (cond (all_chars (q ∷ (inside ++ (r ∷ [])))) kind.Str kind.Bad)) (q ∷ (inside ++ (r ∷ []))) rest
text_by q inside r rest e c =
    let w : List Letter = inside ++ (r ∷ []) in
    let same : w ++ rest ≡ inside ++ (r ∷ rest) = append_assoc inside (r ∷ []) rest in
    let m : option_map suc (string_from false (w ++ rest)) ≡ Some (suc (suc (length inside))) = ap (λ ls. option_map suc (string_from false ls)) same ∙ ap (option_map suc) c in
    fits_by Quote _ (q ∷ w) rest (suc (suc (length inside))) (quote_start q (w ++ rest) e) refl m (omega (arith, length-append inside (r ∷ []))) (λ _. refl)

text_fits : (w rest : List Letter) → IsString w → Fits (Some (cond (all_chars w) kind.Str kind.Bad)) w rest
text_fits w rest (string q inside r e k h) = text_by q inside r rest e (inside_closes inside r rest k h)

-- symbols
word_by : (a b c d : Bool) → a ≡ false → b ≡ false → c ≡ false → d ≡ false → cond a Name (cond b Digits (cond c Variable (cond d TypeVariable Nothing))) ≡ Nothing
word_by a b c d e f g h = rw (e, f, g, h) refl

tick_false : (a b : Bool) → a ≡ false → (a && b) ≡ false
tick_false a b e = rw e refl

pub word_nothing : (l : Letter) (ls : List Letter) → is_start l ≡ false → is_digit l ≡ false → (is_char 63 l && first_is is_start ls) ≡ false → (is_char 39 l && first_is is_start ls) ≡ false → word_start (l ∷ ls) ≡ Nothing
word_nothing l ls = word_by (is_start l) (is_digit l) (is_char 63 l && first_is is_start ls) (is_char 39 l && first_is is_start ls)

-- what begins where nothing opens and no word begins
pub sign_open : (l : Letter) (ls : List Letter) (s : Start) → is_blank l ≡ false → opening nest.Comment (l ∷ ls) ≡ 0 → opening nest.Cartouche (l ∷ ls) ≡ 0 → is_char 34 l ≡ false → word_start (l ∷ ls) ≡ Nothing → sign_start (l ∷ ls) ≡ s → start_at (l ∷ ls) ≡ s
sign_open l ls s b c n q w e = start_open l ls b c n q ∙ (ap (λ x. or_else x (sign_start (l ∷ ls))) w ∙ e)

run_start : (l : Letter) (ls : List Letter) → is_symbolic l ≡ true → (is_char 63 l && first_is is_start ls) ≡ false → start_at (l ∷ ls) ≡ Run
run_start l ls e f =
    let o = symbolic_opens l e in
    let word = word_nothing l ls (symbolic_no_start l e) (symbolic_no_digit l e) f (tick_false (is_char 39 l) _ (other 39 Symbolics refl l e)) in
    sign_open l ls Run o.blank (no_comment l ls o.paren) (no_cartouche l ls o.slash o.angle) o.quote word (rw (o.slash, symbolic_no_sign l e, e) refl)

-- a run that a variable begins with is the question mark alone
mark_alone : (ls rest : List Letter) → list_all is_symbolic ls ≡ true → first_is is_start (ls ++ rest) ≡ true → ls ≡ []
mark_alone [] rest h e = refl
mark_alone (l ∷ ls) rest h e = let bad : is_start l ≡ false = symbolic_no_start l (and_first (is_symbolic l) _ h) in cc

goes_some : (ls : List Letter) → first_is is_start ls ≡ true → 1 ≤ var_more ls
goes_some [] h = cc
goes_some (l ∷ ls) h = omega (arith, ap length (take_while-cons is_continue l ls ∙ ap (λ b. cond b (l ∷ take_while is_continue ls) []) (start_continues l h)))

run_cases : (l : Letter) (ls rest : List Letter) (v : Bool) → is_symbolic l ≡ true → list_all is_symbolic ls ≡ true → (is_char 63 l && first_is is_start (ls ++ rest)) ≡ v → Fits (Some kind.Sym) (l ∷ ls) rest
run_cases l ls rest true e h f =
    let alone : ls ≡ [] = mark_alone ls rest h (and_second (is_char 63 l) _ f) in
    let some = goes_some (ls ++ rest) (and_second (is_char 63 l) _ f) in
    let len : length ls ≡ 0 = ap length alone in
    fits_by Variable _ (l ∷ ls) rest (1 + var_more (ls ++ rest)) (mark_start l (ls ++ rest) (and_first (is_char 63 l) _ f) (and_second (is_char 63 l) _ f)) refl refl (omega (arith, some, len)) (λ is. absurd (omega (arith, some, len, is)))
run_cases l ls rest false e h f =
    fits_by Run _ (l ∷ ls) rest (1 + symbols_more (ls ++ rest)) (run_start l (ls ++ rest) e f) refl refl (omega (arith, while_all is_symbolic ls rest h)) (λ _. refl)

run_fits : (w rest : List Letter) → is_run is_symbolic w ≡ true → Fits (Some kind.Sym) w rest
run_fits [] rest h = cc
run_fits (l ∷ ls) rest h = run_cases l ls rest _ (and_first (is_symbolic l) _ h) (and_second (is_symbolic l) _ h) refl

-- a symbol by its name
named_start : (b l : Letter) (ls : List Letter) → is_char 92 b ≡ true → opening nest.Cartouche (b ∷ l ∷ ls) ≡ 0 → is_named (b ∷ l ∷ ls) ≡ true → start_at (b ∷ l ∷ ls) ≡ Named
unfolding unicode_ident
named_start b l ls e o n =
    let word = word_none b (l ∷ ls) (known 92 Starts refl b e) (known 92 is_ascii_digit refl b e) (known 92 (λ c. c == 63) refl b e) (known 92 (λ c. c == 39) refl b e) in
    sign_open b (l ∷ ls) Named (known 92 Blanks refl b e) (no_comment b (l ∷ ls) (known 92 (λ c. c == 40) refl b e)) o (known 92 (λ c. c == 34) refl b e) word (ap (λ x. cond x Named (cond (is_sign b) Sign (cond (is_symbolic b) Run (cond (spells (codes "::") (b ∷ l ∷ ls) || spells (codes "..") (b ∷ l ∷ ls)) Double (cond (is_single b) Single Nothing))))) n)

alphas_end : (a : List Letter) (r : Letter) (rest : List Letter) → is_run is_alpha a ≡ true → is_char 62 r ≡ true → alphas (a ++ (r ∷ rest)) ≡ length a
alphas_end [] r rest h e = cc
alphas_end (l ∷ ls) r rest h e =
    let all : list_all is_alpha (l ∷ ls) ≡ true = rw (and_first (is_alpha l) _ h, and_second (is_alpha l) _ h) refl in
    omega (arith, while_all is_alpha (l ∷ ls) (r ∷ rest) all, while_stop is_alpha r rest (known 62 is_ascii_alphabetic refl r e))

run_first : (p : Letter → Bool) (a rest : List Letter) → is_run p a ≡ true → first_is p (a ++ rest) ≡ true
run_first p [] rest h = cc
run_first p (l ∷ ls) rest h = and_first (p l) _ h

bracketed : (b l : Letter) (a : List Letter) (r : Letter) (rest : List Letter) → is_char 92 b ≡ true → is_char 60 l ≡ true → is_run is_alpha a ≡ true → is_char 62 r ≡ true → is_named (b ∷ l ∷ (a ++ (r ∷ rest))) ≡ true
bracketed b l a r rest e f h k =
    let m : alphas (a ++ (r ∷ rest)) ≡ length a = alphas_end a r rest h k in
    let closes : first_is (is_char 62) (drop (alphas (a ++ (r ∷ rest))) (a ++ (r ∷ rest))) ≡ true = ap (λ i. first_is (is_char 62) (drop i (a ++ (r ∷ rest)))) m ∙ (ap (first_is (is_char 62)) (drop-append_seam a (r ∷ rest)) ∙ k) in
    let at : drop (2 + alphas (a ++ (r ∷ rest))) (b ∷ l ∷ (a ++ (r ∷ rest))) ≡ drop (alphas (a ++ (r ∷ rest))) (a ++ (r ∷ rest)) = sym (drop-drop (alphas (a ++ (r ∷ rest))) 2 (b ∷ l ∷ (a ++ (r ∷ rest)))) in
    both_by _ _ (first_is is_alpha (a ++ (r ∷ rest))) _ e f (run_first is_alpha a (r ∷ rest) h) (ap (first_is (is_char 62)) at ∙ closes)
  where
    both_by : (x y z t : Bool) → x ≡ true → y ≡ true → z ≡ true → t ≡ true → (((x && (y && true)) && z) && t) ≡ true
    both_by x y z t p q r s = rw (p, q, r, s) refl

named_by : (b l : Letter) (a : List Letter) (r : Letter) (rest : List Letter) → is_char 92 b ≡ true → is_char 60 l ≡ true → is_run is_alpha a ≡ true → is_char 62 r ≡ true → opening nest.Cartouche (b ∷ l ∷ ((a ++ (r ∷ [])) ++ rest)) ≡ 0 → Fits (Some kind.Sym) (b ∷ l ∷ (a ++ (r ∷ []))) rest
named_by b l a r rest e f h k o =
    let w : List Letter = a ++ (r ∷ []) in
    let same : w ++ rest ≡ a ++ (r ∷ rest) = append_assoc a (r ∷ []) rest in
    let n : is_named (b ∷ l ∷ (w ++ rest)) ≡ true = ap (λ ls. is_named (b ∷ l ∷ ls)) same ∙ bracketed b l a r rest e f h k in
    let m : alphas (w ++ rest) ≡ length a = ap alphas same ∙ alphas_end a r rest h k in
    fits_by Named _ (b ∷ l ∷ w) rest (3 + alphas (w ++ rest)) (named_start b l (w ++ rest) e o n) refl refl (omega (arith, m, length-append a (r ∷ []))) (λ _. refl)

-- one character of the table
no_angle : (b c : Bool) → ◌≡◌ {A = ℕ} (cond b 7 (cond c 1 0)) 0 → c ≡ false
no_angle true c e = absurd (let bad : ⊥ = cc in bad)
no_angle false true e = absurd (let bad : ⊥ = cc in bad)
no_angle false false e = refl

pub sign_start_at : (l : Letter) (ls : List Letter) → is_sign l ≡ true → opening nest.Cartouche (l ∷ ls) ≡ 0 → start_at (l ∷ ls) ≡ Sign
sign_start_at l ls e o =
    let no = sign_no_word l e in
    sign_open l ls Sign (sign_no_blank l e) (no_comment l ls (other 40 Signs refl l e)) o (other 34 Signs refl l e) (word_none l ls no.start no.digit no.mark no.tick) (rw (other 92 Signs refl l e, e) refl)

symbol_fits : (w rest : List Letter) → IsSymbol w → opening nest.Cartouche (w ++ rest) ≡ 0 → Fits (Some kind.Sym) w rest
symbol_fits v rest (run w h) o = run_fits w rest h
symbol_fits v rest (named b l a r e f h k) o = named_by b l a r rest e f h k o
symbol_fits v rest (sign l e) o = fits_by Sign _ (l ∷ []) rest 1 (sign_start_at l rest e o) refl refl (omega arith) (λ _. refl)

-- delimiters
takes_by : (o n : ℕ) (q : Option ℕ) → o ≤ n → o ≤ unwrap_or (option_map (λ k. o + k) q) n
takes_by o n None h = h
takes_by o n (Some k) h = omega arith

open_takes : (n : Nest) (s : Start) (ls : List Letter) → 0 < opening n ls → start_at ls ≡ s → measured s ls ≡ nested_from n 0 0 ls → opening n ls ≤ count_at ls
open_takes n s ls h e m =
    let c : count_at ls ≡ unwrap_or (nested_from n 0 0 ls) (length ls) = counted s ls (nested_from n 0 0 ls) e m in
    let w : unwrap_or (nested_from n 0 0 ls) (length ls) ≡ unwrap_or (option_map (λ k. opening n ls + k) (nested_from n 0 1 (drop (opening n ls) ls))) (length ls) = ap (λ o. unwrap_or o (length ls)) (walk_open n 0 ls h) in
    omega (arith, c, w, takes_by (opening n ls) (length ls) (nested_from n 0 1 (drop (opening n ls) ls)) (opening_fits n ls))

-- what takes more
longer_fits : (k : Option Kind) (w rest : List Letter) → length w < count_at (w ++ rest) → is_nothing (start_at (w ++ rest)) ≡ false → Fits k w rest
longer_fits k w rest h e = record { fits = omega (arith, h); kind = λ is. absurd (omega (arith, h, is)); some = e }

pub delimiter_start : (l : Letter) (ls : List Letter) (s : Start) → is_single l ≡ true → opening nest.Comment (l ∷ ls) ≡ 0 → cond (spells (codes "::") (l ∷ ls) || spells (codes "..") (l ∷ ls)) Double Single ≡ s → start_at (l ∷ ls) ≡ s
delimiter_start l ls s e c d =
    let no = single_no_word l e in
    sign_open l ls s (single_no_blank l e) c (no_cartouche l ls (other 92 Singles refl l e) (other 0x2039 Singles refl l e)) (other 34 Singles refl l e) (word_none l ls no.start no.digit no.mark no.tick)
    (rw (other 92 Singles refl l e, single_no_sign l e, single_no_symbolic l e, e) d)

single_by : (l : Letter) (rest : List Letter) (c d : Bool) → is_single l ≡ true → spells (codes "(*") (l ∷ rest) ≡ c → (spells (codes "::") (l ∷ rest) || spells (codes "..") (l ∷ rest)) ≡ d → Fits (Some kind.Single) (l ∷ []) rest
single_by l rest true d e f g =
    let o : opening nest.Comment (l ∷ rest) ≡ 2 = rw f refl in
    let start : start_at (l ∷ rest) ≡ Comment = comment_start (l ∷ rest) (omega (arith, o)) in
    longer_fits _ (l ∷ []) rest (omega (arith, o, open_takes nest.Comment Comment (l ∷ rest) (omega (arith, o)) start refl)) (ap is_nothing start)
single_by l rest false true e f g =
    let o : opening nest.Comment (l ∷ rest) ≡ 0 = rw f refl in
    let start : start_at (l ∷ rest) ≡ Double = delimiter_start l rest Double e o (rw g refl) in
    longer_fits _ (l ∷ []) rest (omega (arith, counted Double (l ∷ rest) (Some 2) start refl)) (ap is_nothing start)
single_by l rest false false e f g =
    let o : opening nest.Comment (l ∷ rest) ≡ 0 = rw f refl in
    fits_by Single _ (l ∷ []) rest 1 (delimiter_start l rest Single e o (rw g refl)) refl refl (omega arith) (λ _. refl)

double_by : (l m : Letter) (rest : List Letter) → is_single l ≡ true → is_char 40 l ≡ false → (spells (codes "::") (l ∷ m ∷ rest) || spells (codes "..") (l ∷ m ∷ rest)) ≡ true → Fits (Some kind.Single) (l ∷ m ∷ []) rest
double_by l m rest e p d = fits_by Double _ (l ∷ m ∷ []) rest 2 (delimiter_start l (m ∷ rest) Double e (no_comment l (m ∷ rest) p) (rw d refl)) refl refl (omega arith) (λ _. refl)

pub is_single_char : (c : ℕ) → Singles c ≡ true → (l : Letter) → is_char c l ≡ true → is_single l ≡ true
is_single_char c h l e = single_value l.value e
  where
    single_value : (v : Option ℕ) → option_map_or (λ d. d == c) v false ≡ true → option_map_or Singles v false ≡ true
    single_value None e = e
    single_value (Some d) e = ap Singles (same d c e) ∙ h

delimiter_fits : (w rest : List Letter) → IsDelimiter w → Fits (Some kind.Single) w rest
delimiter_fits w rest (single l e) = single_by l rest _ _ e refl refl
delimiter_fits w rest (colons l m e f) = double_by l m rest (is_single_char 58 refl l e) (known 58 (λ c. c == 40) refl l e) (rw (e, f) refl)
delimiter_fits w rest (dots l m e f) = double_by l m rest (is_single_char 46 refl l e) (known 46 (λ c. c == 40) refl l e) (rw (known 46 (λ c. c == 58) refl l e, e, f) refl)

-- what isn't closed
unclosed_by : (s : Start) (w : List Letter) → start_at w ≡ s → is_nothing s ≡ false → measured s w ≡ None → Fits (Some kind.Bad) w []
unclosed_by s w e some m =
    let c : count_at w ≡ length w = counted s w None e m in
    let k : kind_at w ≡ Some kind.Bad = kinded s w None e m in
    let nil : w ≡ w ++ [] = sym (append-nil w) in
    record {
      fits = subst (λ v. length w ≤ count_at v) nil (omega (arith, c));
      kind = λ _. subst (λ v. kind_at v ≡ Some kind.Bad) nil k;
      some = subst (λ v. is_nothing (start_at v) ≡ false) nil (ap is_nothing e ∙ some);
    }

never_closed : (n : Nest) (w : List Letter) (o : Option ℕ) → 0 < opening n w → ((rest : List Letter) → IsWhole n w rest → ⊥) → nested_from n 0 0 w ≡ o → nested_from n 0 0 w ≡ None
never_closed n w None h f e = e
never_closed n w (Some k) h f e = absurd (f (drop k w) (whole_is n w k h e))

open_fits : (n : Nest) (w : List Letter) → 0 < opening n w → nested_from n 0 0 w ≡ None → Fits (Some kind.Bad) w []
open_fits nest.Comment w h e = unclosed_by Comment w (comment_start w h) refl e
open_fits nest.Cartouche w h e = unclosed_by Cartouche w (cartouche_start w h) refl e

pub in_string : (q : Letter) (ls : List Letter) (n : ℕ) → is_char 34 q ≡ true → string_from false ls ≡ Some n → (v : List Letter) × ((rest : List Letter) × ((v ++ rest ≡ q ∷ ls) × IsString v))
in_string q ls n e m =
    let i = string_is ls n m in
    (q ∷ (i.front ++ (i.last ∷ [])), (i.rest, (ap (λ y. q ∷ y) (append_assoc i.front (i.last ∷ []) i.rest ∙ i.is), string q i.front i.last e i.inside i.closes)))

never_ends : (q : Letter) (ls : List Letter) (o : Option ℕ) → is_char 34 q ≡ true → ((v rest : List Letter) → v ++ rest ≡ q ∷ ls → IsString v → ⊥) → string_from false ls ≡ o → string_from false ls ≡ None
never_ends q ls None e f m = m
never_ends q ls (Some n) e f m = let s = in_string q ls n e m in absurd (f (s.0) (s.1.0) (s.1.1.0) (s.1.1.1))

open_text : (w : List Letter) → first_is (is_char 34) w ≡ true → ((v rest : List Letter) → v ++ rest ≡ w → IsString v → ⊥) → Fits (Some kind.Bad) w []
open_text [] e f = cc
open_text (q ∷ ls) e f = unclosed_by Quote (q ∷ ls) (quote_start q ls e) refl (ap (option_map suc) (never_ends q ls _ e f refl))

-- whatever stands in front
pub stands_fits : (k : Option Kind) (w rest : List Letter) → Stands k w rest → Fits k w rest
stands_fits k v end (blank l rest e) = blank_fits l rest e
stands_fits k v end (comment w rest h) = comment_fits w rest h
stands_fits k v end (ident w rest h) = ident_fits w rest h
stands_fits k v end (long w rest h) = long_fits w rest h
stands_fits k v end (number w rest h) = number_fits w rest h
stands_fits k v end (variable w rest h) = variable_fits w rest h
stands_fits k v end (type_variable w rest h) = type_fits w rest h
stands_fits k v end (text w rest h) = text_fits w rest h
stands_fits k v end (cartouche w rest h) = cartouche_fits w rest h
stands_fits k v end (symbol w rest h o) = symbol_fits w rest h o
stands_fits k v end (delimiter w rest h) = delimiter_fits w rest h
stands_fits k v end (unclosed n w h f) = open_fits n w h (never_closed n w _ h f refl)
stands_fits k v end (unclosed_text w h f) = open_text w h f
