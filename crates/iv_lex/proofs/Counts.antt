-- How far forms go: what they take, and no more.
use Rattle.std.proofs.Common.{◌≡◌, ◌⊎◌, inl, inr, ℕ, suc, ◌+◌, ◌≤◌, List, [], ◌∷◌, ◌++◌, length, take, take_while, refl, ap, ◌∙◌, subst, arith, append_assoc, append-nil, length-append}
use Rattle.std.specs.Prelude.{Bool, true, false, cond, ◌&&◌, ◌||◌, Option, None, Some}
use Rattle.std.specs.Option.{option_map}
use Rattle.std.specs.List.{list_any, list_all}
use Rattle.std.proofs.lemmas.List.Sums.{take_while-cons}
use Rattle.iv_lex.specs.declared.letters.Letter.{Letter}
use Rattle.iv_lex.specs.Letter.{is_char, is_start, is_continue}
use Rattle.iv_lex.specs.Form.{first_is, name_more, string_from}
use Rattle.iv_lex.specs.Shape.{is_ident, IsLong, last, more, IsInside, nothing, letter, pair}
use Rattle.iv_lex.proofs.Apart.{start_continues, continue_no_dot, slash_no_quote}

pub and_first : (a b : Bool) → (a && b) ≡ true → a ≡ true
and_first true b e = refl
and_first false b e = cc

pub and_second : (a b : Bool) → (a && b) ≡ true → b ≡ true
and_second true b e = e
and_second false b e = cc

or_true : (a : Bool) → (a || true) ≡ true
or_true true = refl
or_true false = refl

-- a run goes on past all that meet its test
pub while_all : {A : Type 0} (p : A → Bool) (xs ys : List A) → list_all p xs ≡ true → length (take_while p (xs ++ ys)) ≡ length xs + length (take_while p ys)
while_all p [] ys h = omega arith
while_all p (x ∷ xs) ys h =
    let e : take_while p (x ∷ (xs ++ ys)) ≡ x ∷ take_while p (xs ++ ys) = rw (take_while-cons p x (xs ++ ys), and_first (p x) _ h) refl in
    omega (arith, ap length e, while_all p xs ys (and_second (p x) _ h))

-- and stops where one doesn't
pub while_stop : {A : Type 0} (p : A → Bool) (y : A) (ys : List A) → p y ≡ false → length (take_while p (y ∷ ys)) ≡ 0
while_stop p y ys h = rw (take_while-cons p y ys, h) refl

-- all that it takes meet it
while_by : {A : Type 0} (p : A → Bool) (x : A) (xs : List A) (v : Bool) → p x ≡ v → list_all p (take (length (take_while p xs)) xs) ≡ true → list_all p (take (length (take_while p (x ∷ xs))) (x ∷ xs)) ≡ true
while_by p x xs true e h = rw (take_while-cons p x xs, e) (rw (e, h) refl)
while_by p x xs false e h = rw (take_while-cons p x xs, e) refl

pub while_meets : {A : Type 0} (p : A → Bool) (xs : List A) → list_all p (take (length (take_while p xs)) xs) ≡ true
while_meets p [] = refl
while_meets p (x ∷ xs) = while_by p x xs (p x) refl (while_meets p xs)

-- names
pub name_passes : (xs ys : List Letter) → list_all is_continue xs ≡ true → name_more (xs ++ ys) ≡ length xs + name_more ys
name_passes [] ys h = omega arith
name_passes (x ∷ xs) ys h =
    let e : name_more (x ∷ (xs ++ ys)) ≡ suc (name_more (xs ++ ys)) = rw (and_first (is_continue x) _ h) refl in
    omega (arith, e, name_passes xs ys (and_second (is_continue x) _ h))

-- the letters are the start of a name, and a name goes on past them
pub record NameFront (w : List Letter) : Type 0 where
  pub front : Letter
  pub more : List Letter
  pub is : w ≡ front ∷ more
  pub starts : is_start front ≡ true
  pub goes : (rest : List Letter) → length more ≤ name_more (more ++ rest)

pub ident_named : (w : List Letter) → is_ident w ≡ true → NameFront w
ident_named [] h = cc
ident_named (l ∷ ls) h = record {
  front = l;
  more = ls;
  is = refl;
  starts = and_first (is_start l) _ h;
  goes = λ rest. omega (arith, name_passes ls rest (and_second (is_start l) _ h));
}

dotted_named : (a : List Letter) (dot : Letter) (b : List Letter) → is_ident a ≡ true → is_char 46 dot ≡ true → NameFront b → NameFront (a ++ (dot ∷ b))
dotted_named [] dot b h d n = cc
dotted_named (l ∷ ls) dot b h d n = record {
  front = l;
  more = ls ++ (dot ∷ b);
  is = refl;
  starts = and_first (is_start l) _ h;
  goes = λ rest.
      let one : name_more ((ls ++ (dot ∷ b)) ++ rest) ≡ length ls + name_more ((dot ∷ b) ++ rest) = ap name_more (append_assoc ls (dot ∷ b) rest) ∙ name_passes ls ((dot ∷ b) ++ rest) (and_second (is_start l) _ h) in
      let two : name_more (dot ∷ (n.front ∷ (n.more ++ rest))) ≡ suc (name_more (n.front ∷ (n.more ++ rest))) = rw (d, n.starts, or_true (is_continue dot)) refl in
      let three : name_more (n.front ∷ (n.more ++ rest)) ≡ suc (name_more (n.more ++ rest)) = rw (start_continues n.front n.starts) refl in
      let same : name_more ((dot ∷ b) ++ rest) ≡ name_more (dot ∷ (n.front ∷ (n.more ++ rest))) = ap (λ x. name_more ((dot ∷ x) ++ rest)) n.is in
      let len : length b ≡ suc (length n.more) = ap length n.is in
      let all : length (ls ++ (dot ∷ b)) ≡ length ls + suc (length b) = length-append ls (dot ∷ b) in
      omega (arith, one, two, three, same, len, all, n.goes rest);
}

pub long_named : (w : List Letter) → IsLong w → NameFront w
long_named w (last a dot b h d k) = dotted_named a dot b h d (ident_named b k)
long_named w (more a dot b h d k) = dotted_named a dot b h d (long_named b k)

-- no dot is in an identifier, and one is in each longer name
continues_no_dot : (ls : List Letter) → list_all is_continue ls ≡ true → list_any (is_char 46) ls ≡ false
continues_no_dot [] h = refl
continues_no_dot (l ∷ ls) h = rw (continue_no_dot l (and_first (is_continue l) _ h), continues_no_dot ls (and_second (is_continue l) _ h)) refl

pub ident_no_dot : (w : List Letter) → is_ident w ≡ true → list_any (is_char 46) w ≡ false
ident_no_dot [] h = cc
ident_no_dot (l ∷ ls) h = rw (continue_no_dot l (start_continues l (and_first (is_start l) _ h)), continues_no_dot ls (and_second (is_start l) _ h)) refl

dot_in : (a : List Letter) (dot : Letter) (b : List Letter) → is_char 46 dot ≡ true → list_any (is_char 46) (a ++ (dot ∷ b)) ≡ true
dot_in [] dot b d = rw d refl
dot_in (l ∷ ls) dot b d = rw (dot_in ls dot b d) (or_true (is_char 46 l))

pub long_dot : (w : List Letter) → IsLong w → list_any (is_char 46) w ≡ true
long_dot w (last a dot b h d k) = dot_in a dot b d
long_dot w (more a dot b h d k) = dot_in a dot b d

-- what the measure of a name takes is an identifier or a longer name
abbrev pub IsNamed : List Letter → Type 0
IsNamed w = (is_ident w ≡ true) ⊎ IsLong w

all_append : (p : Letter → Bool) (xs ys : List Letter) → list_all p xs ≡ true → list_all p ys ≡ true → list_all p (xs ++ ys) ≡ true
all_append p [] ys h k = k
all_append p (x ∷ xs) ys h k = rw (and_first (p x) _ h, all_append p xs ys (and_second (p x) _ h) k) refl

longer : (a : List Letter) (l : Letter) → is_ident a ≡ true → is_continue l ≡ true → is_ident (a ++ (l ∷ [])) ≡ true
longer [] l h k = cc
longer (x ∷ xs) l h k = rw (and_first (is_start x) _ h, all_append is_continue xs (l ∷ []) (and_second (is_start x) _ h) (rw k refl)) refl

with_dot : (a : List Letter) (dot : Letter) (b : List Letter) → is_ident a ≡ true → is_char 46 dot ≡ true → IsNamed b → IsNamed (a ++ (dot ∷ b))
with_dot a dot b h d (inl k) = inr (last a dot b h d k)
with_dot a dot b h d (inr k) = inr (more a dot b h d k)

shifted : (a : List Letter) (l : Letter) (ls : List Letter) → IsNamed ((a ++ (l ∷ [])) ++ ls) → IsNamed (a ++ (l ∷ ls))
shifted a l ls h = subst IsNamed (append_assoc a (l ∷ []) ls) h

abbrev NamedTo : List Letter → Type 0
NamedTo ls = (a : List Letter) → is_ident a ≡ true → IsNamed (a ++ take (name_more ls) ls)

named_stop : (a : List Letter) → is_ident a ≡ true → IsNamed (a ++ [])
named_stop a h = inl (rw (append-nil a) h)

named_step : (a : List Letter) (l : Letter) (ls : List Letter) (v : Bool) → is_ident a ≡ true → is_continue l ≡ v → ((v ≡ true) → IsNamed (a ++ (l ∷ take (name_more ls) ls))) → ((w : Bool) → (is_char 46 l && first_is is_start ls) ≡ w → v ≡ false → IsNamed (a ++ take (cond w (suc (name_more ls)) 0) (l ∷ ls))) → IsNamed (a ++ take (name_more (l ∷ ls)) (l ∷ ls))
named_step a l ls true h e f g = rw e (f refl)
named_step a l ls false h e f g = rw e (g _ refl refl)

-- a dot and the start of an identifier
after_dot : (a : List Letter) (l : Letter) (ls : List Letter) → is_ident a ≡ true → is_char 46 l ≡ true → first_is is_start ls ≡ true → ((m : Letter) (ms : List Letter) → ls ≡ m ∷ ms → NamedTo ms) → IsNamed (a ++ (l ∷ take (name_more ls) ls))
after_dot a l [] h d s f = cc
after_dot a l (m ∷ ms) h d s f =
    let goes : name_more (m ∷ ms) ≡ suc (name_more ms) = rw (start_continues m s) refl in
    rw goes (with_dot a l (m ∷ take (name_more ms) ms) h d (f m ms refl (m ∷ []) (rw s refl)))

named_by : (a : List Letter) (l : Letter) (ls : List Letter) (w : Bool) → is_ident a ≡ true → (is_char 46 l && first_is is_start ls) ≡ w → ((m : Letter) (ms : List Letter) → ls ≡ m ∷ ms → NamedTo ms) → IsNamed (a ++ take (cond w (suc (name_more ls)) 0) (l ∷ ls))
named_by a l ls true h e f = after_dot a l ls h (and_first (is_char 46 l) _ e) (and_second (is_char 46 l) _ e) f
named_by a l ls false h e f = named_stop a h

-- the letters, and those behind the first of them
tail_of : (l m : Letter) (ls ms : List Letter) → l ∷ ls ≡ m ∷ ms → ls ≡ ms
tail_of l m ls ms e = cc

named_all : (ls : List Letter) → NamedTo ls × ((m : Letter) (ms : List Letter) → ls ≡ m ∷ ms → NamedTo ms)
named_all [] = (λ a h. named_stop a h, λ m ms e. cc)
named_all (l ∷ ls) =
    let rest = named_all ls in (
      λ a h. named_step a l ls (is_continue l) h refl (λ e. shifted a l (take (name_more ls) ls) (rest.0 (a ++ (l ∷ [])) (longer a l h e))) (λ w e k. named_by a l ls w h e (rest.1)),
      λ m ms e. subst NamedTo (tail_of l m ls ms e) (rest.0),
    )

pub name_is : (l : Letter) (ls : List Letter) → is_start l ≡ true → IsNamed (l ∷ take (name_more ls) ls)
name_is l ls h = (named_all ls).0 (l ∷ []) (rw h refl)

-- strings
pub inside_closes : (w : List Letter) (r : Letter) (rest : List Letter) → IsInside w → is_char 34 r ≡ true → string_from false (w ++ (r ∷ rest)) ≡ Some (suc (length w))
inside_closes w r rest nothing h = rw h refl
inside_closes w r rest (letter l ls q s k) h = rw (q, s, inside_closes ls r rest k h) refl
inside_closes w r rest (pair l m ls s k) h = rw (slash_no_quote l s, s, inside_closes ls r rest k h) refl

-- a closed string is its inside and a quote
pub record Inside (ls : List Letter) : Type 0 where
  pub front : List Letter
  pub last : Letter
  pub rest : List Letter
  pub is : front ++ (last ∷ rest) ≡ ls
  pub inside : IsInside front
  pub closes : is_char 34 last ≡ true

abbrev Closes : List Letter → Type 0
Closes ls = (n : ℕ) → string_from false ls ≡ Some n → Inside ls

abbrev ClosesBehind : List Letter → Type 0
ClosesBehind ls = (l : Letter) (n : ℕ) → is_char 92 l ≡ true → string_from true ls ≡ Some n → Inside (l ∷ ls)

pub some_of : (f : ℕ → ℕ) (o : Option ℕ) (n : ℕ) → option_map f o ≡ Some n → (k : ℕ) × ((o ≡ Some k) × (f k ≡ n))
some_of f None n e = cc
some_of f (Some k) n e = (k, (refl, cc))

closes_step : (x : Letter) (xs : List Letter) (q s : Bool) (n : ℕ) → is_char 34 x ≡ q → is_char 92 x ≡ s → cond q (Some 1) (option_map suc (string_from s xs)) ≡ Some n → Closes xs → ClosesBehind xs → Inside (x ∷ xs)
closes_step x xs true s n g h e f k = record { front = []; last = x; rest = xs; is = refl; inside = nothing; closes = g }
closes_step x xs false true n g h e f k = let o = some_of suc (string_from true xs) n e in k x (o.0) h (o.1.0)
closes_step x xs false false n g h e f k =
    let o = some_of suc (string_from false xs) n e in
    let r = f (o.0) (o.1.0) in
    record { front = x ∷ r.front; last = r.last; rest = r.rest; is = ap (λ y. x ∷ y) r.is; inside = letter x r.front g h r.inside; closes = r.closes }

closes_behind : (l x : Letter) (xs : List Letter) (n : ℕ) → is_char 92 l ≡ true → option_map suc (string_from false xs) ≡ Some n → Closes xs → Inside (l ∷ x ∷ xs)
closes_behind l x xs n s e f =
    let o = some_of suc (string_from false xs) n e in
    let r = f (o.0) (o.1.0) in
    record { front = l ∷ x ∷ r.front; last = r.last; rest = r.rest; is = ap (λ y. l ∷ x ∷ y) r.is; inside = pair l x r.front s r.inside; closes = r.closes }

closes_all : (ls : List Letter) → Closes ls × ClosesBehind ls
closes_all [] = (λ n e. cc, λ l n s e. cc)
closes_all (x ∷ xs) =
    let rest = closes_all xs in (
      λ n e. closes_step x xs (is_char 34 x) (is_char 92 x) n refl refl e (rest.0) (rest.1),
      λ l n s e. closes_behind l x xs n s e (rest.0),
    )

pub string_is : (ls : List Letter) (n : ℕ) → string_from false ls ≡ Some n → Inside ls
string_is ls = (closes_all ls).0
