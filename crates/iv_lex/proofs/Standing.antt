-- What the measure takes stands in front.
use Rattle.std.proofs.Common.{◌≡◌, ◌⊎◌, inl, inr, ℕ, zero, suc, ◌+◌, ◌≤◌, ◌<◌, List, [], ◌∷◌, ◌++◌, length, take, drop, take_while, refl, ap, sym, ◌∙◌, subst, arith, append_assoc, append-nil, length-append, length-drop}
use Rattle.std.specs.Prelude.{Bool, true, false, cond, ◌&&◌, ◌||◌, codes, Option, None, Some, unwrap_or}
use Rattle.std.specs.Option.{option_map}
use Rattle.std.proofs.lemmas.List.{drop-drop}
use Rattle.std.proofs.lemmas.List.Sums.{take_while-cons}
use Rattle.iv_lex.specs.declared.letters.Letter.{Letter}
use Rattle.iv_lex.specs.declared.nests.Nest.{Nest}
use Rattle.iv_lex.specs.declared.nests.Nest.TheVariants as nest
use Rattle.iv_lex.specs.declared.starts.Start.{Start}
use Rattle.iv_lex.specs.declared.starts.Start.TheVariants.{Blank, Comment, Cartouche, Quote, Name, Digits, Variable, TypeVariable, Named, Sign, Run, Double, Single, Nothing}
use Rattle.iv_lex.specs.declared.cutting.Kind.TheVariants as kind
use Rattle.iv_lex.specs.Letter.{is_blank, is_char, is_start, is_continue, is_digit, is_alpha, is_symbolic, is_sign, is_single}
use Rattle.iv_lex.specs.Form.{first_is, spells, opening, is_named, alphas, ident_more, digits_more, symbols_more, name_more, goes_on, number_more, var_more, string_from, nested_from}
use Rattle.iv_lex.specs.Start.{start_at, measured, word_start, sign_start}
use Rattle.iv_lex.specs.Token.{kind_by, kind_at, count_at}
use Rattle.iv_lex.specs.Shape.{is_ident, is_run, IsVar, plain, numbered, plain_type, IsString, string, IsWhole, IsSymbol, run, named, sign, IsDelimiter, single, colons, dots, Stands, blank, comment, ident, long, number, variable, type_variable, text, cartouche, symbol, delimiter, unclosed, unclosed_text}
use Rattle.iv_lex.proofs.Apart.{start_continues}
use Rattle.iv_lex.proofs.Counts.{and_first, and_second, ident_no_dot, long_dot, inside_closes, string_is}
use Rattle.iv_lex.proofs.Nestings.{whole_ends, whole_is}
use Rattle.std.proofs.lemmas.List.{take-append-drop, drop_all}
use Rattle.std.proofs.Math.Seq.{take-add, take-append-add, take-length}
use Rattle.iv_lex.proofs.Counts.{while_meets, IsNamed, name_is}
use Rattle.iv_lex.proofs.Fronts.{is_nothing, counted, kinded, comment_start, cartouche_start, name_start, digits_start, mark_start, tick_start, quote_start, sign_open, word_nothing}

-- what is taken by the measure
abbrev pub Taken : List Letter → Type 0
Taken ls = Stands (kind_at ls) (take (count_at ls) ls) (drop (count_at ls) ls) × (count_at ls ≤ length ls)

taken_by : (s : Start) (ls : List Letter) (n : ℕ) → start_at ls ≡ s → measured s ls ≡ Some n → n ≤ length ls → Stands (kind_by s (take n ls)) (take n ls) (drop n ls) → Taken ls
taken_by s ls n e m b h =
    let c : count_at ls ≡ n = counted s ls (Some n) e m in
    let k : kind_at ls ≡ kind_by s (take n ls) = kinded s ls (Some n) e m in
    (taken_front c k, omega (arith, b, c))
  where
    taken_front : count_at ls ≡ n → kind_at ls ≡ kind_by s (take n ls) → Stands (kind_at ls) (take (count_at ls) ls) (drop (count_at ls) ls)
    taken_front c k = subst (λ x. Stands x (take (count_at ls) ls) (drop (count_at ls) ls)) (sym k) (subst (λ i. Stands (kind_by s (take n ls)) (take i ls) (drop i ls)) (sym c) h)

-- all is taken where nothing closes
all_taken : (s : Start) (ls : List Letter) → start_at ls ≡ s → measured s ls ≡ None → Stands (Some kind.Bad) ls [] → Taken ls
all_taken s ls e m h =
    let c : count_at ls ≡ length ls = counted s ls None e m in
    let k : kind_at ls ≡ Some kind.Bad = kinded s ls None e m in
    let front : take (length ls) ls ≡ ls = take-length ls in
    let back : drop (length ls) ls ≡ [] = drop_all (length ls) ls (omega arith) in
    (subst (λ x. Stands x (take (count_at ls) ls) (drop (count_at ls) ls)) (sym k) (subst (λ i. Stands (Some kind.Bad) (take i ls) (drop i ls)) (sym c) (subst (λ v. Stands (Some kind.Bad) (take (length ls) ls) v) (sym back) (subst (λ v. Stands (Some kind.Bad) v []) (sym front) h))), omega (arith, c))

-- brackets
whole_of : (n : Nest) (ls : List Letter) (k : ℕ) → IsWhole n ls (drop k ls) → IsWhole n (take k ls ++ drop k ls) (drop k ls)
whole_of n ls k h = subst (λ v. IsWhole n v (drop k ls)) (sym (take-append-drop k ls)) h

none_whole : (n : Nest) (ls : List Letter) → nested_from n 0 0 ls ≡ None → (rest : List Letter) → IsWhole n ls rest → ⊥
none_whole n ls e rest h = let bad : None ≡ Some (whole_ends n ls rest h).passed.count = sym e ∙ (whole_ends n ls rest h).ends in cc

walk_fits : (n : Nest) (ls : List Letter) (k : ℕ) → 0 < opening n ls → nested_from n 0 0 ls ≡ Some k → k ≤ length ls
walk_fits n ls k h e =
    let w = whole_ends n ls (drop k ls) (whole_is n ls k h e) in
    let same : Some k ≡ Some w.passed.count = sym e ∙ w.ends in
    omega (arith, w.passed.fits, ap (λ o. unwrap_or o 0) same)

pub comment_taken : (ls : List Letter) (o : Option ℕ) → 0 < opening nest.Comment ls → nested_from nest.Comment 0 0 ls ≡ o → Taken ls
comment_taken ls None h e = all_taken Comment ls (comment_start ls h) e (unclosed nest.Comment ls h (none_whole nest.Comment ls e))
comment_taken ls (Some k) h e = taken_by Comment ls k (comment_start ls h) e (walk_fits nest.Comment ls k h e) (comment (take k ls) (drop k ls) (whole_of nest.Comment ls k (whole_is nest.Comment ls k h e)))

cartouche_taken : (ls : List Letter) (o : Option ℕ) → 0 < opening nest.Cartouche ls → nested_from nest.Cartouche 0 0 ls ≡ o → Taken ls
cartouche_taken ls None h e = all_taken Cartouche ls (cartouche_start ls h) e (unclosed nest.Cartouche ls h (none_whole nest.Cartouche ls e))
cartouche_taken ls (Some k) h e = taken_by Cartouche ls k (cartouche_start ls h) e (walk_fits nest.Cartouche ls k h e) (cartouche (take k ls) (drop k ls) (whole_of nest.Cartouche ls k (whole_is nest.Cartouche ls k h e)))

-- strings
none_string : (q : Letter) (ls : List Letter) → string_from false ls ≡ None → (v rest : List Letter) → v ++ rest ≡ q ∷ ls → IsString v → ⊥
none_string q ls e v rest f (string p inside r g k h) =
    let same : inside ++ (r ∷ rest) ≡ ls = sym (append_assoc inside (r ∷ []) rest) ∙ tail_is (p) q _ ls f in
    let bad : None ≡ Some (suc (length inside)) = sym e ∙ (ap (string_from false) (sym same) ∙ inside_closes inside r rest k h) in
    cc
  where
    tail_is : (l m : Letter) (ls ms : List Letter) → l ∷ ls ≡ m ∷ ms → ls ≡ ms
    tail_is l m ls ms e = cc

string_front : (q : Letter) (ls : List Letter) (n : ℕ) → is_char 34 q ≡ true → string_from false ls ≡ Some n → IsString (q ∷ take n ls)
string_front q ls n e m =
    let i = string_is ls n m in
    let count : Some n ≡ Some (suc (length i.front)) = sym m ∙ (ap (string_from false) (sym i.is) ∙ inside_closes i.front i.last i.rest i.inside i.closes) in
    let c : n ≡ length i.front + 1 = omega (arith, ap (λ o. unwrap_or o 0) count) in
    let w : take n ls ≡ i.front ++ (i.last ∷ []) = ap (λ k. take k ls) c ∙ (ap (take (length i.front + 1)) (sym i.is) ∙ take-append-add i.front (i.last ∷ i.rest) 1) in
    subst (λ v. IsString (q ∷ v)) (sym w) (string q i.front i.last e i.inside i.closes)

string_fits : (q : Letter) (ls : List Letter) (n : ℕ) → is_char 34 q ≡ true → string_from false ls ≡ Some n → n ≤ length ls
string_fits q ls n e m =
    let i = string_is ls n m in
    let count : Some n ≡ Some (suc (length i.front)) = sym m ∙ (ap (string_from false) (sym i.is) ∙ inside_closes i.front i.last i.rest i.inside i.closes) in
    omega (arith, ap (λ o. unwrap_or o 0) count, ap length i.is, length-append i.front (i.last ∷ i.rest))

quote_taken : (q : Letter) (ls : List Letter) (o : Option ℕ) → is_char 34 q ≡ true → string_from false ls ≡ o → Taken (q ∷ ls)
quote_taken q ls None e m = all_taken Quote (q ∷ ls) (quote_start q ls e) (ap (option_map suc) m) (unclosed_text (q ∷ ls) e (none_string q ls m))
quote_taken q ls (Some n) e m = taken_by Quote (q ∷ ls) (suc n) (quote_start q ls e) (ap (option_map suc) m) (omega (arith, string_fits q ls n e m)) (text (q ∷ take n ls) (drop n ls) (string_front q ls n e m))

-- names
name_kind : (w rest : List Letter) → IsNamed w → Stands (kind_by Name w) w rest
name_kind w rest (inl h) = subst (λ b. Stands (Some (cond b kind.Long kind.Ident)) w rest) (sym (ident_no_dot w h)) (ident w rest h)
name_kind w rest (inr h) = subst (λ b. Stands (Some (cond b kind.Long kind.Ident)) w rest) (sym (long_dot w h)) (long w rest h)

-- a letter, and so many behind it
taken_more : (s : Start) (l : Letter) (ls : List Letter) (n : ℕ) → start_at (l ∷ ls) ≡ s → measured s (l ∷ ls) ≡ Some (1 + n) → n ≤ length ls → Stands (kind_by s (l ∷ take n ls)) (l ∷ take n ls) (drop n ls) → Taken (l ∷ ls)
taken_more s l ls n e m b h =
    let f : 1 + n ≡ suc n = omega arith in
    taken_by s (l ∷ ls) (suc n) e (m ∙ ap (λ k. Some k) f) (omega (arith, b)) h

name_by : (b : Bool) (n k : ℕ) → n ≤ k → cond b (suc n) 0 ≤ suc k
name_by true n k h = omega (arith, h)
name_by false n k h = omega arith

name_fits : (ls : List Letter) → name_more ls ≤ length ls
name_fits [] = omega arith
name_fits (l ∷ ls) = name_by (goes_on (l ∷ ls)) (name_more ls) (length ls) (name_fits ls)

while_by : {A : Type 0} (p : A → Bool) (x : A) (xs : List A) (b : Bool) → p x ≡ b → length (take_while p xs) ≤ length xs → length (take_while p (x ∷ xs)) ≤ suc (length xs)
while_by p x xs true e h = rw (take_while-cons p x xs, e) (omega (arith, h))
while_by p x xs false e h = rw (take_while-cons p x xs, e) (omega arith)

while_fits : {A : Type 0} (p : A → Bool) (xs : List A) → length (take_while p xs) ≤ length xs
while_fits p [] = omega arith
while_fits p (x ∷ xs) = while_by p x xs _ refl (while_fits p xs)

number_by : (b : Bool) (ls : List Letter) → (first_is (is_char 46) ls && first_is is_digit (drop 1 ls)) ≡ b → number_more ls ≤ length ls
number_by false ls e = rw e (omega arith)
number_by true [] e = cc
number_by true (l ∷ ls) e = rw e (omega (arith, while_fits is_digit ls))

var_fits : (ls : List Letter) → var_more ls ≤ length ls
var_fits ls = omega (arith, while_fits is_continue ls, number_by _ (drop (ident_more ls) ls) refl, length-drop (ident_more ls) ls)

name_taken : (l : Letter) (ls : List Letter) → is_start l ≡ true → Taken (l ∷ ls)
name_taken l ls e = taken_more Name l ls (name_more ls) (name_start l ls e) refl (name_fits ls) (name_kind (l ∷ take (name_more ls) ls) (drop (name_more ls) ls) (name_is l ls e))

-- runs
run_taken : (p : Letter → Bool) (ls : List Letter) → first_is p ls ≡ true → is_run p (take (length (take_while p ls)) ls) ≡ true
run_taken p [] h = cc
run_taken p (l ∷ ls) h =
    let n : length (take_while p (l ∷ ls)) ≡ suc (length (take_while p ls)) = ap length (take_while-cons p l ls ∙ ap (λ b. cond b (l ∷ take_while p ls) []) h) in
    ap (λ k. is_run p (take k (l ∷ ls))) n ∙ rw (h, while_meets p ls) refl

rest_run : (p : Letter → Bool) (l : Letter) (ls : List Letter) → p l ≡ true → is_run p (l ∷ take (length (take_while p ls)) ls) ≡ true
rest_run p l ls h = rw (h, while_meets p ls) refl

digits_taken : (l : Letter) (ls : List Letter) → is_digit l ≡ true → Taken (l ∷ ls)
digits_taken l ls e = taken_more Digits l ls (digits_more ls) (digits_start l ls e) refl (while_fits is_digit ls) (number (l ∷ take (digits_more ls) ls) (drop (digits_more ls) ls) (rest_run is_digit l ls e))

-- variables
ident_taken : (ls : List Letter) → first_is is_start ls ≡ true → is_ident (take (ident_more ls) ls) ≡ true
ident_taken [] h = cc
ident_taken (l ∷ ls) h =
    let n : ident_more (l ∷ ls) ≡ suc (ident_more ls) = ap length (take_while-cons is_continue l ls ∙ ap (λ b. cond b (l ∷ take_while is_continue ls) []) (start_continues l h)) in
    ap (λ k. is_ident (take k (l ∷ ls))) n ∙ rw (h, while_meets is_continue ls) refl

number_taken : (ls : List Letter) (b : Bool) (a : List Letter) (mark : Letter) → is_char 63 mark ≡ true → is_ident a ≡ true → (first_is (is_char 46) ls && first_is is_digit (drop 1 ls)) ≡ b → IsVar (mark ∷ (a ++ take (cond b (1 + digits_more (drop 1 ls)) 0) ls))
number_taken ls false a mark e h f = subst (λ v. IsVar (mark ∷ v)) (sym (append-nil a)) (plain mark a e h)
number_taken [] true a mark e h f = cc
number_taken (dot ∷ ls) true a mark e h f =
    let k : 1 + digits_more ls ≡ suc (digits_more ls) = omega arith in
    subst (λ n. IsVar (mark ∷ (a ++ take n (dot ∷ ls)))) (sym k) (numbered mark a dot (take (digits_more ls) ls) e h (and_first (is_char 46 dot) _ f) (run_taken is_digit ls (and_second (is_char 46 dot) _ f)))

var_front : (mark : Letter) (ls : List Letter) → is_char 63 mark ≡ true → first_is is_start ls ≡ true → IsVar (mark ∷ take (var_more ls) ls)
var_front mark ls e f =
    let i : ℕ = ident_more ls in
    subst (λ v. IsVar (mark ∷ v)) (sym (take-add i (number_more (drop i ls)) ls)) (number_taken (drop i ls) _ (take i ls) mark e (ident_taken ls f) refl)

variable_taken : (mark : Letter) (ls : List Letter) → is_char 63 mark ≡ true → first_is is_start ls ≡ true → Taken (mark ∷ ls)
variable_taken mark ls e f = taken_more Variable mark ls (var_more ls) (mark_start mark ls e f) refl (var_fits ls) (variable (mark ∷ take (var_more ls) ls) (drop (var_more ls) ls) (var_front mark ls e f))

type_taken : (mark : Letter) (ls : List Letter) → is_char 39 mark ≡ true → first_is is_start ls ≡ true → Taken (mark ∷ ls)
type_taken mark ls e f = taken_more TypeVariable mark ls (ident_more ls) (tick_start mark ls e f) refl (while_fits is_continue ls) (type_variable (mark ∷ take (ident_more ls) ls) (drop (ident_more ls) ls) (plain_type mark (take (ident_more ls) ls) e (ident_taken ls f)))

-- where nothing opens
pub record Open (l : Letter) (ls : List Letter) : Type 0 where
  pub blank : is_blank l ≡ false
  pub comment : opening nest.Comment (l ∷ ls) ≡ 0
  pub cartouche : opening nest.Cartouche (l ∷ ls) ≡ 0
  pub quote : is_char 34 l ≡ false

-- symbols
no_open : (l : Letter) (ls : List Letter) (n : ℕ) → Open l ls → opening nest.Cartouche ((l ∷ take n ls) ++ drop n ls) ≡ 0
no_open l ls n o = ap (λ v. opening nest.Cartouche (l ∷ v)) (take-append-drop n ls) ∙ o.cartouche

run_front : (l : Letter) (ls : List Letter) → Open l ls → word_start (l ∷ ls) ≡ Nothing → sign_start (l ∷ ls) ≡ Run → is_symbolic l ≡ true → Taken (l ∷ ls)
run_front l ls o w s e = taken_more Run l ls (symbols_more ls) (sign_open l ls Run o.blank o.comment o.cartouche o.quote w s) refl (while_fits is_symbolic ls) (symbol (l ∷ take (symbols_more ls) ls) (drop (symbols_more ls) ls) (run (l ∷ take (symbols_more ls) ls) (rest_run is_symbolic l ls e)) (no_open l ls (symbols_more ls) o))

sign_front : (l : Letter) (ls : List Letter) → Open l ls → word_start (l ∷ ls) ≡ Nothing → sign_start (l ∷ ls) ≡ Sign → is_sign l ≡ true → Taken (l ∷ ls)
sign_front l ls o w s e = taken_by Sign (l ∷ ls) 1 (sign_open l ls Sign o.blank o.comment o.cartouche o.quote w s) refl (omega arith) (symbol (l ∷ []) ls (sign l e) o.cartouche)

single_front : (l : Letter) (ls : List Letter) → Open l ls → word_start (l ∷ ls) ≡ Nothing → sign_start (l ∷ ls) ≡ Single → is_single l ≡ true → Taken (l ∷ ls)
single_front l ls o w s e = taken_by Single (l ∷ ls) 1 (sign_open l ls Single o.blank o.comment o.cartouche o.quote w s) refl (omega arith) (delimiter (l ∷ []) ls (single l e))

or_cases : (a b : Bool) → (a || b) ≡ true → (a ≡ true) ⊎ (b ≡ true)
or_cases true b e = inl refl
or_cases false b e = inr e

two_of : (c : ℕ) (l : Letter) (ls : List Letter) → spells (c ∷ c ∷ []) (l ∷ ls) ≡ true → (m : Letter) × ((ms : List Letter) × ((ls ≡ m ∷ ms) × ((is_char c l ≡ true) × (is_char c m ≡ true))))
two_of c l [] h = let bad : false ≡ true = and_second (is_char c l) _ h in cc
two_of c l (m ∷ ms) h = (m, (ms, (refl, (and_first (is_char c l) _ h, and_first (is_char c m) _ (and_second (is_char c l) _ h)))))

double_by : (l m : Letter) (ms : List Letter) → Open l (m ∷ ms) → word_start (l ∷ m ∷ ms) ≡ Nothing → sign_start (l ∷ m ∷ ms) ≡ Double → IsDelimiter (l ∷ m ∷ []) → Taken (l ∷ m ∷ ms)
double_by l m ms o w s d = taken_by Double (l ∷ m ∷ ms) 2 (sign_open l (m ∷ ms) Double o.blank o.comment o.cartouche o.quote w s) refl (omega arith) (delimiter (l ∷ m ∷ []) ms d)

double_front : (l : Letter) (ls : List Letter) → Open l ls → word_start (l ∷ ls) ≡ Nothing → sign_start (l ∷ ls) ≡ Double → (spells (codes "::") (l ∷ ls) ≡ true) ⊎ (spells (codes "..") (l ∷ ls) ≡ true) → Taken (l ∷ ls)
double_front l [] o w s (inl d) = let bad : false ≡ true = and_second (is_char 58 l) _ d in cc
double_front l [] o w s (inr d) = let bad : false ≡ true = and_second (is_char 46 l) _ d in cc
double_front l (m ∷ ms) o w s (inl d) = double_by l m ms o w s (colons l m (and_first (is_char 58 l) _ d) (and_first (is_char 58 m) _ (and_second (is_char 58 l) _ d)))
double_front l (m ∷ ms) o w s (inr d) = double_by l m ms o w s (dots l m (and_first (is_char 46 l) _ d) (and_first (is_char 46 m) _ (and_second (is_char 46 l) _ d)))

some_left : (t : Letter → Bool) (ls : List Letter) → first_is t ls ≡ true → 1 ≤ length ls
some_left t [] h = cc
some_left t (l ∷ ls) h = omega arith

-- a symbol by its name
named_front : (l : Letter) (ls : List Letter) → Open l ls → word_start (l ∷ ls) ≡ Nothing → sign_start (l ∷ ls) ≡ Named → is_named (l ∷ ls) ≡ true → Taken (l ∷ ls)
named_front l [] o w s n = let bad : false ≡ true = and_second (is_char 92 l) _ (and_first _ _ (and_first _ _ n)) in cc
named_front l (m ∷ ms) o w s n =
    let k : ℕ = alphas ms in
    let opens = and_first (is_char 92 l && (is_char 60 m && true)) (first_is is_alpha ms) (and_first _ _ n) in
    let name = and_second (is_char 92 l && (is_char 60 m && true)) (first_is is_alpha ms) (and_first _ _ n) in
    let left : drop (2 + k) (l ∷ m ∷ ms) ≡ drop k ms = sym (drop-drop k 2 (l ∷ m ∷ ms)) in
    let closes : first_is (is_char 62) (drop k ms) ≡ true = ap (first_is (is_char 62)) (sym left) ∙ and_second _ (first_is (is_char 62) (drop (2 + k) (l ∷ m ∷ ms))) n in
    let whole = named_by l m (take k ms) (drop k ms) (and_first (is_char 92 l) _ opens) (and_first (is_char 60 m) _ (and_second (is_char 92 l) _ opens)) (run_taken is_alpha ms name) closes in
    let back : take k ms ++ take 1 (drop k ms) ≡ take (k + 1) ms = sym (take-add k 1 ms) in
    let count : 3 + k ≡ suc (suc (k + 1)) = omega arith in
    let shut : opening nest.Cartouche ((l ∷ m ∷ take (k + 1) ms) ++ drop (k + 1) ms) ≡ 0 = ap (λ v. opening nest.Cartouche (l ∷ m ∷ v)) (take-append-drop (k + 1) ms) ∙ o.cartouche in
    taken_by Named (l ∷ m ∷ ms) (suc (suc (k + 1))) (sign_open l (m ∷ ms) Named o.blank o.comment o.cartouche o.quote w s) (ap (λ j. Some j) count) (omega (arith, some_left (is_char 62) (drop k ms) closes, length-drop k ms)) (symbol (l ∷ m ∷ take (k + 1) ms) (drop (k + 1) ms) (subst (λ v. IsSymbol (l ∷ m ∷ v)) back whole) shut)
  where
    named_by : (b l : Letter) (a ls : List Letter) → is_char 92 b ≡ true → is_char 60 l ≡ true → is_run is_alpha a ≡ true → first_is (is_char 62) ls ≡ true → IsSymbol (b ∷ l ∷ (a ++ take 1 ls))
    named_by b l a [] e f h k = cc
    named_by b l a (r ∷ ls) e f h k = named b l a r e f h k

-- all that begins where nothing opens and no word begins
abbrev Signs_by : Bool → Bool → Bool → Bool → Bool → Start
Signs_by a b c d e = cond a Named (cond b Sign (cond c Run (cond d Double (cond e Single Nothing))))

signs_are : (l : Letter) (ls : List Letter) (a b c d e : Bool) → is_named (l ∷ ls) ≡ a → is_sign l ≡ b → is_symbolic l ≡ c → (spells (codes "::") (l ∷ ls) || spells (codes "..") (l ∷ ls)) ≡ d → is_single l ≡ e → sign_start (l ∷ ls) ≡ Signs_by a b c d e
signs_are l ls a b c d e p q r s t =
    ap (λ x. Signs_by x (is_sign l) (is_symbolic l) (spells (codes "::") (l ∷ ls) || spells (codes "..") (l ∷ ls)) (is_single l)) p
    ∙ (ap (λ x. Signs_by a x (is_symbolic l) (spells (codes "::") (l ∷ ls) || spells (codes "..") (l ∷ ls)) (is_single l)) q
    ∙ (ap (λ x. Signs_by a b x (spells (codes "::") (l ∷ ls) || spells (codes "..") (l ∷ ls)) (is_single l)) r
    ∙ (ap (λ x. Signs_by a b c x (is_single l)) s
    ∙ ap (λ x. Signs_by a b c d x) t)))

signs_taken : (l : Letter) (ls : List Letter) (a b c d e : Bool) → Open l ls → word_start (l ∷ ls) ≡ Nothing → is_nothing (sign_start (l ∷ ls)) ≡ false → is_named (l ∷ ls) ≡ a → is_sign l ≡ b → is_symbolic l ≡ c → (spells (codes "::") (l ∷ ls) || spells (codes "..") (l ∷ ls)) ≡ d → is_single l ≡ e → Taken (l ∷ ls)
signs_taken l ls true b c d e o w n p q r s t = named_front l ls o w (signs_are l ls true b c d e p q r s t) p
signs_taken l ls false true c d e o w n p q r s t = sign_front l ls o w (signs_are l ls false true c d e p q r s t) q
signs_taken l ls false false true d e o w n p q r s t = run_front l ls o w (signs_are l ls false false true d e p q r s t) r
signs_taken l ls false false false true e o w n p q r s t = double_front l ls o w (signs_are l ls false false false true e p q r s t) (or_cases _ _ s)
signs_taken l ls false false false false true o w n p q r s t = single_front l ls o w (signs_are l ls false false false false true p q r s t) t
signs_taken l ls false false false false false o w n p q r s t = absurd (let bad : true ≡ false = sym (ap is_nothing (signs_are l ls false false false false false p q r s t)) ∙ n in cc)

-- all that begins where nothing opens
words_taken : (l : Letter) (ls : List Letter) (a b c d : Bool) → Open l ls → is_nothing (start_at (l ∷ ls)) ≡ false → is_start l ≡ a → is_digit l ≡ b → (is_char 63 l && first_is is_start ls) ≡ c → (is_char 39 l && first_is is_start ls) ≡ d → Taken (l ∷ ls)
words_taken l ls true b c d o n p q r s = name_taken l ls p
words_taken l ls false true c d o n p q r s = digits_taken l ls q
words_taken l ls false false true d o n p q r s = variable_taken l ls (and_first (is_char 63 l) _ r) (and_second (is_char 63 l) _ r)
words_taken l ls false false false true o n p q r s = type_taken l ls (and_first (is_char 39 l) _ s) (and_second (is_char 39 l) _ s)
words_taken l ls false false false false o n p q r s =
    let w = word_nothing l ls p q r s in
    let e : start_at (l ∷ ls) ≡ sign_start (l ∷ ls) = sign_open l ls (sign_start (l ∷ ls)) o.blank o.comment o.cartouche o.quote w refl in
    signs_taken l ls _ _ _ _ _ o w (ap is_nothing (sym e) ∙ n) refl refl refl refl refl

-- all that begins
starts_taken : (l : Letter) (ls : List Letter) (a : Bool) (b c : ℕ) (d : Bool) → is_nothing (start_at (l ∷ ls)) ≡ false → is_blank l ≡ a → opening nest.Comment (l ∷ ls) ≡ b → opening nest.Cartouche (l ∷ ls) ≡ c → is_char 34 l ≡ d → Taken (l ∷ ls)
starts_taken l ls true b c d n p q r s = taken_by Blank (l ∷ ls) 1 (rw p refl) refl (omega arith) (blank l ls p)
starts_taken l ls false (suc b) c d n p q r s = comment_taken (l ∷ ls) _ (omega (arith, q)) refl
starts_taken l ls false zero (suc c) d n p q r s = cartouche_taken (l ∷ ls) _ (omega (arith, r)) refl
starts_taken l ls false zero zero true n p q r s = quote_taken l ls _ s refl
starts_taken l ls false zero zero false n p q r s =
    words_taken l ls _ _ _ _ (record { blank = p; comment = q; cartouche = r; quote = s }) n refl refl refl refl

pub all_that_begins : (l : Letter) (ls : List Letter) → is_nothing (start_at (l ∷ ls)) ≡ false → Taken (l ∷ ls)
all_that_begins l ls n = starts_taken l ls _ _ _ _ n refl refl refl refl
