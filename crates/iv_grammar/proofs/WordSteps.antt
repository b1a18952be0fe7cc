-- Words: how many characters they take, and which they are.
use Rattle.std.proofs.Common.{◌≡◌, ◌⊎◌, inl, inr, ℕ, suc, ◌+◌, ◌≤◌, ◌<◌, List, [], ◌∷◌, ◌++◌, length, take, drop, take_while, refl, ap, sym, ◌∙◌, subst, arith, append_assoc, append-nil, length-append}
use Rattle.std.specs.Prelude.{Bool, true, false, cond, not, ◌&&◌, ◌||◌, ◌==◌}
use Rattle.std.specs.List.{list_any, list_all}
use Rattle.std.specs.Char.{is_ascii_digit}
use Rattle.std.proofs.lemmas.List.Sums.{take_while-cons}
use Rattle.std.proofs.lemmas.Bool.Decides.{nat_tests}
use Rattle.std.proofs.Math.Seq.{take-add, drop-append_seam}
use Rattle.unicode_ident.specs.Ident.{is_xid_start, is_xid_continue}
use Rattle.unicode_ident.proofs.Computing.{unicode_ident}
use Rattle.unicode_ident.proofs.IdentLemmas.{is_xid_start-is_xid_continue}
use Rattle.iv_grammar.specs.declared.words.Word.{Word}
use Rattle.iv_grammar.specs.declared.words.Word.TheVariants as word
use Rattle.iv_grammar.specs.Word.{is_start, is_continue, is_ident, is_number, IsLong, last, more, IsWord, ident, long, variable, numbered, type_variable}
use Rattle.iv_grammar.specs.Measure.{first_is, name_more, ident_more, digits_more, number_more, var_more, goes_on, word_count, word_of}

-- no character is of two sorts
pub same : (a b : ℕ) → (a == b) ≡ true → a ≡ b
same a b e = grind (arith, nat_tests)

is_itself : (c : ℕ) → (c == c) ≡ true
is_itself c = grind (arith, nat_tests)

-- a character of a sort is no other character
other : (p : ℕ → Bool) (k : ℕ) → p k ≡ false → (c : ℕ) → p c ≡ true → (c == k) ≡ false
other p k h c e = other_by (c == k) refl
  where
    other_by : (v : Bool) → (c == k) ≡ v → v ≡ false
    other_by true g = let bad : p k ≡ true = ap p (sym (same c k g)) ∙ e in cc
    other_by false g = refl

start_continues : (c : ℕ) → is_start c ≡ true → is_continue c ≡ true
start_continues c e = continues_by (is_xid_start c) (is_xid_continue c) (not (c == 0x03BB)) (is_xid_start-is_xid_continue c) e
  where
    continues_by : (x y z : Bool) → (x ≡ true → y ≡ true) → (x && z) ≡ true → ((y || (c == 39)) && z) ≡ true
    continues_by true y z f e = rw (f refl) e
    continues_by false y z f e = cc

continue_no_dot : (c : ℕ) → is_continue c ≡ true → (c == 46) ≡ false
unfolding unicode_ident
continue_no_dot = other is_continue 46 refl

start_no_dot : (c : ℕ) → is_start c ≡ true → (c == 46) ≡ false
unfolding unicode_ident
start_no_dot = other is_start 46 refl

start_no_mark : (c : ℕ) → is_start c ≡ true → (c == 63) ≡ false
unfolding unicode_ident
start_no_mark = other is_start 63 refl

start_no_tick : (c : ℕ) → is_start c ≡ true → (c == 39) ≡ false
unfolding unicode_ident
start_no_tick = other is_start 39 refl

mark_no_start : is_start 63 ≡ false
unfolding unicode_ident
mark_no_start = refl

tick_no_start : is_start 39 ≡ false
unfolding unicode_ident
tick_no_start = refl

dot_no_continue : is_continue 46 ≡ false
unfolding unicode_ident
dot_no_continue = refl

pub and_first : (a b : Bool) → (a && b) ≡ true → a ≡ true
and_first true b e = refl
and_first false b e = cc

pub and_second : (a b : Bool) → (a && b) ≡ true → b ≡ true
and_second true b e = e
and_second false b e = cc

or_true : (a : Bool) → (a || true) ≡ true
or_true true = refl
or_true false = refl

-- a run goes on past all that meet its test
pub while_all : {A : Type 0} (p : A → Bool) (xs ys : List A) → list_all p xs ≡ true → length (take_while p (xs ++ ys)) ≡ length xs + length (take_while p ys)
while_all p [] ys h = omega arith
while_all p (x ∷ xs) ys h =
    let e : take_while p (x ∷ (xs ++ ys)) ≡ x ∷ take_while p (xs ++ ys) = rw (take_while-cons p x (xs ++ ys), and_first (p x) _ h) refl in
    omega (arith, ap length e, while_all p xs ys (and_second (p x) _ h))

-- and stops where one doesn't
pub while_stop : {A : Type 0} (p : A → Bool) (y : A) (ys : List A) → p y ≡ false → length (take_while p (y ∷ ys)) ≡ 0
while_stop p y ys h = rw (take_while-cons p y ys, h) refl

-- all that it takes meet it
while_by : {A : Type 0} (p : A → Bool) (x : A) (xs : List A) (v : Bool) → p x ≡ v → list_all p (take (length (take_while p xs)) xs) ≡ true → list_all p (take (length (take_while p (x ∷ xs))) (x ∷ xs)) ≡ true
while_by p x xs true e h = rw (take_while-cons p x xs, e) (rw (e, h) refl)
while_by p x xs false e h = rw (take_while-cons p x xs, e) refl

pub while_meets : {A : Type 0} (p : A → Bool) (xs : List A) → list_all p (take (length (take_while p xs)) xs) ≡ true
while_meets p [] = refl
while_meets p (x ∷ xs) = while_by p x xs (p x) refl (while_meets p xs)

-- names
pub name_passes : (xs ys : List ℕ) → list_all is_continue xs ≡ true → name_more (xs ++ ys) ≡ length xs + name_more ys
name_passes [] ys h = omega arith
name_passes (x ∷ xs) ys h =
    let e : name_more (x ∷ (xs ++ ys)) ≡ suc (name_more (xs ++ ys)) = rw (and_first (is_continue x) _ h) refl in
    omega (arith, e, name_passes xs ys (and_second (is_continue x) _ h))

-- the characters are the start of a name, and a name goes on past them
pub record NameFront (w : List ℕ) : Type 0 where
  pub front : ℕ
  pub more : List ℕ
  pub is : w ≡ front ∷ more
  pub starts : is_start front ≡ true
  pub goes : (rest : List ℕ) → length more ≤ name_more (more ++ rest)

pub ident_named : (w : List ℕ) → is_ident w ≡ true → NameFront w
ident_named [] h = cc
ident_named (l ∷ ls) h = record {
  front = l;
  more = ls;
  is = refl;
  starts = and_first (is_start l) _ h;
  goes = λ rest. omega (arith, name_passes ls rest (and_second (is_start l) _ h));
}

dotted_named : (a : List ℕ) (b : List ℕ) → is_ident a ≡ true → NameFront b → NameFront (a ++ (46 ∷ b))
dotted_named [] b h n = cc
dotted_named (l ∷ ls) b h n = record {
  front = l;
  more = ls ++ (46 ∷ b);
  is = refl;
  starts = and_first (is_start l) _ h;
  goes = λ rest.
      let one : name_more ((ls ++ (46 ∷ b)) ++ rest) ≡ length ls + name_more ((46 ∷ b) ++ rest) = ap name_more (append_assoc ls (46 ∷ b) rest) ∙ name_passes ls ((46 ∷ b) ++ rest) (and_second (is_start l) _ h) in
      let two : name_more (46 ∷ (n.front ∷ (n.more ++ rest))) ≡ suc (name_more (n.front ∷ (n.more ++ rest))) = rw (n.starts, or_true (is_continue 46)) refl in
      let three : name_more (n.front ∷ (n.more ++ rest)) ≡ suc (name_more (n.more ++ rest)) = rw (start_continues n.front n.starts) refl in
      let same : name_more ((46 ∷ b) ++ rest) ≡ name_more (46 ∷ (n.front ∷ (n.more ++ rest))) = ap (λ x. name_more ((46 ∷ x) ++ rest)) n.is in
      let len : length b ≡ suc (length n.more) = ap length n.is in
      let all : length (ls ++ (46 ∷ b)) ≡ length ls + suc (length b) = length-append ls (46 ∷ b) in
      omega (arith, one, two, three, same, len, all, n.goes rest);
}

pub long_named : (w : List ℕ) → IsLong w → NameFront w
long_named w (last a b h k) = dotted_named a b h (ident_named b k)
long_named w (more a b h k) = dotted_named a b h (long_named b k)

-- no dot is in an identifier, and one is in each longer name
continues_no_dot : (ls : List ℕ) → list_all is_continue ls ≡ true → list_any (λ c. c == 46) ls ≡ false
continues_no_dot [] h = refl
continues_no_dot (l ∷ ls) h = rw (continue_no_dot l (and_first (is_continue l) _ h), continues_no_dot ls (and_second (is_continue l) _ h)) refl

pub ident_no_dot : (w : List ℕ) → is_ident w ≡ true → list_any (λ c. c == 46) w ≡ false
ident_no_dot [] h = cc
ident_no_dot (l ∷ ls) h = rw (continue_no_dot l (start_continues l (and_first (is_start l) _ h)), continues_no_dot ls (and_second (is_start l) _ h)) refl

dot_in : (a : List ℕ) (b : List ℕ) → list_any (λ c. c == 46) (a ++ (46 ∷ b)) ≡ true
dot_in [] b = refl
dot_in (l ∷ ls) b = rw (dot_in ls b) (or_true (l == 46))

pub long_dot : (w : List ℕ) → IsLong w → list_any (λ c. c == 46) w ≡ true
long_dot w (last a b h k) = dot_in a b
long_dot w (more a b h k) = dot_in a b

-- what the measure of a name takes is an identifier or a longer name
abbrev pub IsNamed : List ℕ → Type 0
IsNamed w = (is_ident w ≡ true) ⊎ IsLong w

all_append : (p : ℕ → Bool) (xs ys : List ℕ) → list_all p xs ≡ true → list_all p ys ≡ true → list_all p (xs ++ ys) ≡ true
all_append p [] ys h k = k
all_append p (x ∷ xs) ys h k = rw (and_first (p x) _ h, all_append p xs ys (and_second (p x) _ h) k) refl

longer : (a : List ℕ) (l : ℕ) → is_ident a ≡ true → is_continue l ≡ true → is_ident (a ++ (l ∷ [])) ≡ true
longer [] l h k = cc
longer (x ∷ xs) l h k = rw (and_first (is_start x) _ h, all_append is_continue xs (l ∷ []) (and_second (is_start x) _ h) (rw k refl)) refl

with_dot : (a : List ℕ) (b : List ℕ) → is_ident a ≡ true → IsNamed b → IsNamed (a ++ (46 ∷ b))
with_dot a b h (inl k) = inr (last a b h k)
with_dot a b h (inr k) = inr (more a b h k)

shifted : (a : List ℕ) (l : ℕ) (ls : List ℕ) → IsNamed ((a ++ (l ∷ [])) ++ ls) → IsNamed (a ++ (l ∷ ls))
shifted a l ls h = subst IsNamed (append_assoc a (l ∷ []) ls) h

abbrev NamedTo : List ℕ → Type 0
NamedTo ls = (a : List ℕ) → is_ident a ≡ true → IsNamed (a ++ take (name_more ls) ls)

named_stop : (a : List ℕ) → is_ident a ≡ true → IsNamed (a ++ [])
named_stop a h = inl (rw (append-nil a) h)

named_step : (a : List ℕ) (l : ℕ) (ls : List ℕ) (v : Bool) → is_ident a ≡ true → is_continue l ≡ v → ((v ≡ true) → IsNamed (a ++ (l ∷ take (name_more ls) ls))) → ((w : Bool) → ((l == 46) && first_is is_start ls) ≡ w → v ≡ false → IsNamed (a ++ take (cond w (suc (name_more ls)) 0) (l ∷ ls))) → IsNamed (a ++ take (name_more (l ∷ ls)) (l ∷ ls))
named_step a l ls true h e f g = rw e (f refl)
named_step a l ls false h e f g = rw e (g _ refl refl)

-- a dot and the start of an identifier
after_dot : (a : List ℕ) (l : ℕ) (ls : List ℕ) → is_ident a ≡ true → (l == 46) ≡ true → first_is is_start ls ≡ true → ((m : ℕ) (ms : List ℕ) → ls ≡ m ∷ ms → NamedTo ms) → IsNamed (a ++ (l ∷ take (name_more ls) ls))
after_dot a l [] h d s f = cc
after_dot a l (m ∷ ms) h d s f =
    let goes : name_more (m ∷ ms) ≡ suc (name_more ms) = rw (start_continues m s) refl in
    let dot : 46 ≡ l = sym (same l 46 d) in
    rw goes (subst (λ k. IsNamed (a ++ (k ∷ (m ∷ take (name_more ms) ms)))) dot (with_dot a (m ∷ take (name_more ms) ms) h (f m ms refl (m ∷ []) (rw s refl))))

named_by : (a : List ℕ) (l : ℕ) (ls : List ℕ) (w : Bool) → is_ident a ≡ true → ((l == 46) && first_is is_start ls) ≡ w → ((m : ℕ) (ms : List ℕ) → ls ≡ m ∷ ms → NamedTo ms) → IsNamed (a ++ take (cond w (suc (name_more ls)) 0) (l ∷ ls))
named_by a l ls true h e f = after_dot a l ls h (and_first (l == 46) _ e) (and_second (l == 46) _ e) f
named_by a l ls false h e f = named_stop a h

-- the characters, and those behind the first of them
tail_of : (l m : ℕ) (ls ms : List ℕ) → l ∷ ls ≡ m ∷ ms → ls ≡ ms
tail_of l m ls ms e = cc

named_all : (ls : List ℕ) → NamedTo ls × ((m : ℕ) (ms : List ℕ) → ls ≡ m ∷ ms → NamedTo ms)
named_all [] = (λ a h. named_stop a h, λ m ms e. cc)
named_all (l ∷ ls) =
    let rest = named_all ls in (
      λ a h. named_step a l ls (is_continue l) h refl (λ e. shifted a l (take (name_more ls) ls) (rest.0 (a ++ (l ∷ [])) (longer a l h e))) (λ w e k. named_by a l ls w h e (rest.1)),
      λ m ms e. subst NamedTo (tail_of l m ls ms e) (rest.0),
    )

pub name_is : (l : ℕ) (ls : List ℕ) → is_start l ≡ true → IsNamed (l ∷ take (name_more ls) ls)
name_is l ls h = (named_all ls).0 (l ∷ []) (rw h refl)

-- the measures stay within the characters
name_by : (b : Bool) (n k : ℕ) → n ≤ k → cond b (suc n) 0 ≤ suc k
name_by true n k h = omega (arith, h)
name_by false n k h = omega arith

name_fits : (cs : List ℕ) → name_more cs ≤ length cs
name_fits [] = omega arith
name_fits (c ∷ cs) = name_by (goes_on (c ∷ cs)) (name_more cs) (length cs) (name_fits cs)

fits_by : {A : Type 0} (p : A → Bool) (x : A) (xs : List A) (b : Bool) → p x ≡ b → length (take_while p xs) ≤ length xs → length (take_while p (x ∷ xs)) ≤ suc (length xs)
fits_by p x xs true e h = rw (take_while-cons p x xs, e) (omega (arith, h))
fits_by p x xs false e h = rw (take_while-cons p x xs, e) (omega arith)

while_fits : {A : Type 0} (p : A → Bool) (xs : List A) → length (take_while p xs) ≤ length xs
while_fits p [] = omega arith
while_fits p (x ∷ xs) = fits_by p x xs _ refl (while_fits p xs)

-- what is taken of a variable
ident_taken : (cs : List ℕ) → first_is is_start cs ≡ true → is_ident (take (ident_more cs) cs) ≡ true
ident_taken [] h = cc
ident_taken (c ∷ cs) h =
    let n : ident_more (c ∷ cs) ≡ suc (ident_more cs) = ap length (take_while-cons is_continue c cs ∙ ap (λ b. cond b (c ∷ take_while is_continue cs) []) (start_continues c h)) in
    ap (λ k. is_ident (take k (c ∷ cs))) n ∙ rw (h, while_meets is_continue cs) refl

digits_taken : (cs : List ℕ) → first_is is_ascii_digit cs ≡ true → is_number (take (digits_more cs) cs) ≡ true
digits_taken [] h = cc
digits_taken (c ∷ cs) h =
    let n : digits_more (c ∷ cs) ≡ suc (digits_more cs) = ap length (take_while-cons is_ascii_digit c cs ∙ ap (λ b. cond b (c ∷ take_while is_ascii_digit cs) []) h) in
    ap (λ k. is_number (take k (c ∷ cs))) n ∙ rw (h, while_meets is_ascii_digit cs) refl

number_taken : (cs : List ℕ) (b : Bool) (a : List ℕ) → is_ident a ≡ true → (first_is (λ c. c == 46) cs && first_is is_ascii_digit (drop 1 cs)) ≡ b → IsWord word.Var (63 ∷ (a ++ take (cond b (1 + digits_more (drop 1 cs)) 0) cs))
number_taken cs false a h f = subst (λ v. IsWord word.Var (63 ∷ v)) (sym (append-nil a)) (variable a h)
number_taken [] true a h f = cc
number_taken (c ∷ cs) true a h f =
    let k : 1 + digits_more cs ≡ suc (digits_more cs) = omega arith in
    let dot : 46 ≡ c = sym (same c 46 (and_first (c == 46) _ f)) in
    subst (λ n. IsWord word.Var (63 ∷ (a ++ take n (c ∷ cs)))) (sym k) (subst (λ d. IsWord word.Var (63 ∷ (a ++ (d ∷ take (digits_more cs) cs)))) dot (numbered a (take (digits_more cs) cs) h (digits_taken cs (and_second (c == 46) _ f))))

var_taken : (cs : List ℕ) → first_is is_start cs ≡ true → IsWord word.Var (63 ∷ take (var_more cs) cs)
var_taken cs f =
    let i : ℕ = ident_more cs in
    subst (λ v. IsWord word.Var (63 ∷ v)) (sym (take-add i (number_more (drop i cs)) cs)) (number_taken (drop i cs) _ (take i cs) (ident_taken cs f) refl)

-- what each word takes
ident_starts : (a rest : List ℕ) → is_ident a ≡ true → first_is is_start (a ++ rest) ≡ true
ident_starts [] rest h = cc
ident_starts (c ∷ cs) rest h = and_first (is_start c) _ h

ident_continues : (a : List ℕ) → is_ident a ≡ true → list_all is_continue a ≡ true
ident_continues [] h = cc
ident_continues (c ∷ cs) h = rw (start_continues c (and_first (is_start c) _ h), and_second (is_start c) _ h) refl

number_runs : (n rest : List ℕ) → is_number n ≡ true → (first_is is_ascii_digit (n ++ rest) ≡ true) × (length n ≤ digits_more (n ++ rest))
number_runs [] rest h = cc
number_runs (c ∷ cs) rest h =
    let one = and_first (is_ascii_digit c) _ h in
    let all : list_all is_ascii_digit (c ∷ cs) ≡ true = rw (one, and_second (is_ascii_digit c) _ h) refl in
    (one, omega (arith, while_all is_ascii_digit (c ∷ cs) rest all))

number_goes : (n rest : List ℕ) → is_number n ≡ true → 1 + length n ≤ number_more (46 ∷ (n ++ rest))
number_goes n rest h =
    let r = number_runs n rest h in
    let is : number_more (46 ∷ (n ++ rest)) ≡ 1 + digits_more (n ++ rest) = rw (r.0) refl in
    omega (arith, is, r.1)

ident_ends : (a cs : List ℕ) → is_ident a ≡ true → ident_more (a ++ (46 ∷ cs)) ≡ length a
ident_ends a cs h = omega (arith, while_all is_continue a (46 ∷ cs) (ident_continues a h), while_stop is_continue 46 cs dot_no_continue)

numbered_goes : (a n rest : List ℕ) → is_ident a ≡ true → is_number n ≡ true → length a + (1 + length n) ≤ var_more (a ++ (46 ∷ (n ++ rest)))
numbered_goes a n rest h r =
    let i : ident_more (a ++ (46 ∷ (n ++ rest))) ≡ length a = ident_ends a (n ++ rest) h in
    let left : drop (ident_more (a ++ (46 ∷ (n ++ rest)))) (a ++ (46 ∷ (n ++ rest))) ≡ 46 ∷ (n ++ rest) = ap (λ k. drop k (a ++ (46 ∷ (n ++ rest)))) i ∙ drop-append_seam a (46 ∷ (n ++ rest)) in
    omega (arith, i, ap number_more left, number_goes n rest r)

-- the measure by what stands first
name_counts : (c : ℕ) (cs : List ℕ) → is_start c ≡ true → word_count (c ∷ cs) ≡ suc (name_more cs)
unfolding word_count
name_counts c cs e = ap (λ b. cond b (suc (name_more cs)) (cond ((c == 63) && first_is is_start cs) (suc (var_more cs)) (cond ((c == 39) && first_is is_start cs) (suc (ident_more cs)) 0))) e

var_counts : (cs : List ℕ) → first_is is_start cs ≡ true → word_count (63 ∷ cs) ≡ suc (var_more cs)
unfolding word_count
var_counts cs e = ap (λ b. cond b (suc (name_more cs)) (cond (first_is is_start cs) (suc (var_more cs)) 0)) mark_no_start ∙ ap (λ b. cond b (suc (var_more cs)) 0) e

type_counts : (cs : List ℕ) → first_is is_start cs ≡ true → word_count (39 ∷ cs) ≡ suc (ident_more cs)
unfolding word_count
type_counts cs e = ap (λ b. cond b (suc (name_more cs)) (cond (first_is is_start cs) (suc (ident_more cs)) 0)) tick_no_start ∙ ap (λ b. cond b (suc (ident_more cs)) 0) e

named_fits : (w rest : List ℕ) → NameFront w → length w ≤ word_count (w ++ rest)
named_fits w rest n =
    subst (λ v. length v ≤ word_count (v ++ rest)) (sym n.is) (omega (arith, name_counts n.front (n.more ++ rest) n.starts, n.goes rest))

-- no word in front is longer than the measure
pub word_fits : (k : Word) (w rest : List ℕ) → IsWord k w → length w ≤ word_count (w ++ rest)
word_fits k w rest (ident a h) = named_fits a rest (ident_named a h)
word_fits k w rest (long a h) = named_fits a rest (long_named a h)
word_fits k w rest (variable a h) =
    omega (arith, var_counts (a ++ rest) (ident_starts a rest h), while_all is_continue a rest (ident_continues a h))
word_fits k w rest (numbered a n h r) =
    let same : (a ++ (46 ∷ n)) ++ rest ≡ a ++ (46 ∷ (n ++ rest)) = append_assoc a (46 ∷ n) rest in
    let starts : first_is is_start ((a ++ (46 ∷ n)) ++ rest) ≡ true = ap (first_is is_start) same ∙ ident_starts a (46 ∷ (n ++ rest)) h in
    omega (arith, var_counts ((a ++ (46 ∷ n)) ++ rest) starts, ap var_more same, numbered_goes a n rest h r, length-append a (46 ∷ n))
word_fits k w rest (type_variable a h) =
    omega (arith, type_counts (a ++ rest) (ident_starts a rest h), while_all is_continue a rest (ident_continues a h))

-- which word it is
which : (c : ℕ) (cs : List ℕ) (b : Bool) → is_start c ≡ true → list_any (λ d. d == 46) (c ∷ cs) ≡ b → word_of (c ∷ cs) ≡ cond b word.Long word.Ident
unfolding word_of
which c cs b e d =
    ap (λ x. cond x word.Var (cond (c == 39) word.Tvar (cond (list_any (λ d. d == 46) (c ∷ cs)) word.Long word.Ident))) (start_no_mark c e)
    ∙ ap (λ x. cond x word.Tvar (cond (list_any (λ d. d == 46) (c ∷ cs)) word.Long word.Ident)) (start_no_tick c e)
    ∙ ap (λ x. cond x word.Long word.Ident) d

named_which : (w : List ℕ) (b : Bool) → NameFront w → list_any (λ d. d == 46) w ≡ b → word_of w ≡ cond b word.Long word.Ident
named_which [] b n d = absurd (let bad : ⊥ = (let f : [] ≡ n.front ∷ n.more = n.is in cc) in bad)
named_which (c ∷ cs) b n d = which c cs b (ap is_start (head_is c n.front cs n.more n.is) ∙ n.starts) d
  where
    head_is : (x y : ℕ) (xs ys : List ℕ) → x ∷ xs ≡ y ∷ ys → x ≡ y
    head_is x y xs ys e = cc

pub word_is : (k : Word) (w : List ℕ) → IsWord k w → word_of w ≡ k
unfolding word_of
word_is k w (ident a h) = named_which a false (ident_named a h) (ident_no_dot a h)
word_is k w (long a h) = named_which a true (long_named a h) (long_dot a h)
word_is k w (variable a h) = refl
word_is k w (numbered a n h r) = refl
word_is k w (type_variable a h) = refl

-- no word is empty
pub word_some : (k : Word) (w : List ℕ) → IsWord k w → 0 < length w
word_some k w (ident a h) = omega (arith, ap length (ident_named a h).is)
word_some k w (long a h) = omega (arith, ap length (long_named a h).is)
word_some k w (variable a h) = omega arith
word_some k w (numbered a n h r) = omega arith
word_some k w (type_variable a h) = omega arith

-- what the measure takes is a word
as_word : (k : Word) (w : List ℕ) → IsWord k w → IsWord (word_of w) w
as_word k w h = subst (λ x. IsWord x w) (sym (word_is k w h)) h

named_word : (w : List ℕ) → IsNamed w → IsWord (word_of w) w
named_word w (inl h) = as_word word.Ident w (ident w h)
named_word w (inr h) = as_word word.Long w (long w h)

taken : (cs : List ℕ) (n m : ℕ) → n ≡ m → IsWord (word_of (take m cs)) (take m cs) → IsWord (word_of (take n cs)) (take n cs)
taken cs n m e h = subst (λ i. IsWord (word_of (take i cs)) (take i cs)) (sym e) h

found_by : (c : ℕ) (cs : List ℕ) (x y z : Bool) (n : ℕ) → is_start c ≡ x → ((c == 63) && first_is is_start cs) ≡ y → ((c == 39) && first_is is_start cs) ≡ z
    → n ≡ cond x (suc (name_more cs)) (cond y (suc (var_more cs)) (cond z (suc (ident_more cs)) 0)) → 0 < n → IsWord (word_of (take n (c ∷ cs))) (take n (c ∷ cs))
found_by c cs true y z n e f g is some = taken (c ∷ cs) n (suc (name_more cs)) is (named_word (c ∷ take (name_more cs) cs) (name_is c cs e))
found_by c cs false true z n e f g is some =
    let mark : 63 ≡ c = sym (same c 63 (and_first (c == 63) _ f)) in
    taken (c ∷ cs) n (suc (var_more cs)) is (subst (λ d. IsWord (word_of (d ∷ take (var_more cs) cs)) (d ∷ take (var_more cs) cs)) mark (as_word word.Var _ (var_taken cs (and_second (c == 63) _ f))))
found_by c cs false false true n e f g is some =
    let mark : 39 ≡ c = sym (same c 39 (and_first (c == 39) _ g)) in
    taken (c ∷ cs) n (suc (ident_more cs)) is (subst (λ d. IsWord (word_of (d ∷ take (ident_more cs) cs)) (d ∷ take (ident_more cs) cs)) mark (as_word word.Tvar _ (type_variable _ (ident_taken cs (and_second (c == 39) _ g)))))
found_by c cs false false false n e f g is some = absurd (omega (arith, is, some))

pub word_found : (cs : List ℕ) → 0 < word_count cs → IsWord (word_of (take (word_count cs) cs)) (take (word_count cs) cs)
unfolding word_count
word_found [] some = absurd (omega arith)
word_found (c ∷ cs) some = found_by c cs (is_start c) ((c == 63) && first_is is_start cs) ((c == 39) && first_is is_start cs) _ refl refl refl refl some
