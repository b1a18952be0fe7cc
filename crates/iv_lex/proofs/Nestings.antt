-- Brackets that nest: what the measure takes is a whole bracket, and the other way round.
use Rattle.std.proofs.Common.{◌≡◌, ◌⊎◌, inl, inr, ℕ, zero, suc, ◌+◌, ◌-◌, ◌≤◌, ◌<◌, List, [], ◌∷◌, length, drop, refl, ap, sym, ◌∙◌, subst, arith, length-drop}
use Rattle.std.specs.Prelude.{Bool, true, false, cond, ◌&&◌, ◌==◌, nat_lt, codes, unwrap_or, Option, None, Some}
use Rattle.std.specs.Option.{option_map}
use Rattle.std.proofs.lemmas.Bool.Decides.{nat_tests}
use Rattle.std.proofs.lemmas.List.{drop-drop}
use Rattle.iv_lex.specs.declared.letters.Letter.{Letter}
use Rattle.iv_lex.specs.declared.nests.Nest.{Nest}
use Rattle.iv_lex.specs.declared.nests.Nest.TheVariants.{Comment, Cartouche}
use Rattle.iv_lex.specs.Letter.{is_char}
use Rattle.iv_lex.specs.Form.{first_is, spells, opening, closing, front, depth_after, is_last, nested_from}
use Rattle.iv_lex.specs.Shape.{IsWhole, IsBody, whole, done, other, bracket}
use Rattle.iv_lex.proofs.Apart.{known}
use Rattle.iv_lex.proofs.Counts.{and_first, and_second, some_of}
use Rattle.iv_lex.proofs.FormSteps.{counted_none, counted_both, nested_step, nested_end}

-- tests of numbers
pub lt_some : (n : ℕ) → 0 < n → nat_lt 0 n ≡ true
lt_some n h = grind (arith, nat_tests)

lt_none : (n : ℕ) → n ≡ 0 → nat_lt 0 n ≡ false
lt_none n h = rw h refl

eq_zero : (n : ℕ) → n ≡ 0 → (n == 0) ≡ true
eq_zero n h = rw h refl

eq_some : (n : ℕ) → 0 < n → (n == 0) ≡ false
eq_some n h = grind (arith, nat_tests)

and_false : (a : Bool) → (a && false) ≡ false
and_false true = refl
and_false false = refl

-- a bracket's letters are there
pub spells_fits : (w : List ℕ) (ls : List Letter) → spells w ls ≡ true → length w ≤ length ls
spells_fits [] ls h = omega arith
spells_fits (c ∷ cs) [] h = cc
spells_fits (c ∷ cs) (l ∷ ls) h = omega (arith, spells_fits cs ls (and_second (is_char c l) _ h))

first_fits : (t : Letter → Bool) (ls : List Letter) → first_is t ls ≡ true → 1 ≤ length ls
first_fits t [] h = cc
first_fits t (l ∷ ls) h = omega arith

fits_one : (b : Bool) (n k : ℕ) → (b ≡ true → n ≤ k) → cond b n 0 ≤ k
fits_one true n k f = f refl
fits_one false n k f = omega arith

fits_two : (b d : Bool) (n m k : ℕ) → (b ≡ true → n ≤ k) → (d ≡ true → m ≤ k) → cond b n (cond d m 0) ≤ k
fits_two true d n m k f g = f refl
fits_two false d n m k f g = fits_one d m k g

pub opening_fits : (n : Nest) (ls : List Letter) → opening n ls ≤ length ls
opening_fits Comment ls = fits_one _ 2 (length ls) (λ e. spells_fits (codes "(*") ls e)
opening_fits Cartouche ls = fits_two _ _ 7 1 (length ls) (λ e. spells_fits (codes "\\<open>") ls e) (λ e. first_fits (is_char 0x2039) ls e)

pub closing_fits : (n : Nest) (ls : List Letter) → closing n ls ≤ length ls
closing_fits Comment ls = fits_one _ 2 (length ls) (λ e. spells_fits (codes "*)") ls e)
closing_fits Cartouche ls = fits_two _ _ 8 1 (length ls) (λ e. spells_fits (codes "\\<close>") ls e) (λ e. first_fits (is_char 0x203A) ls e)

-- no opening stands where a closing does
pub some_one : (b : Bool) (n : ℕ) → 0 < cond b n 0 → b ≡ true
some_one true n h = refl
some_one false n h = absurd (omega (arith, h))

pub some_two : (b d : Bool) (n m : ℕ) → 0 < cond b n (cond d m 0) → (b ≡ true) ⊎ (d ≡ true)
some_two true d n m h = inl refl
some_two false d n m h = inr (some_one d m h)

neither : (a b c : Bool) → b ≡ false → c ≡ false → ◌≡◌ {A = ℕ} (cond (a && b) 7 (cond c 1 0)) 0
neither a b c e f = rw (e, f, and_false a) refl

pub exclusive : (n : Nest) (ls : List Letter) → 0 < closing n ls → opening n ls ≡ 0
exclusive Comment [] h = refl
exclusive Comment (l ∷ ls) h =
    let e = some_one _ 2 h in
    rw (known 42 (λ c. c == 40) refl l (and_first (is_char 42 l) _ e)) refl
exclusive Cartouche [] h = refl
exclusive Cartouche (l ∷ ls) h = exclusive_by l ls (some_two (spells (codes "\\<close>") (l ∷ ls)) (is_char 0x203A l) 8 1 h)
  where
    third : (ls : List Letter) → spells (codes "<close>") ls ≡ true → spells (codes "<open>") ls ≡ false
    third [] h = cc
    third (m ∷ []) h = let b : false ≡ true = and_second (is_char 60 m) _ h in cc
    third (m ∷ k ∷ ls) h =
        let e = and_first (is_char 99 k) _ (and_second (is_char 60 m) _ h) in
        rw (known 99 (λ c. c == 111) refl k e) (and_false (is_char 60 m))

    exclusive_by : (l : Letter) (ls : List Letter) → (spells (codes "\\<close>") (l ∷ ls) ≡ true) ⊎ (is_char 0x203A l ≡ true) → opening Cartouche (l ∷ ls) ≡ 0
    exclusive_by l ls (inl e) = neither (is_char 92 l) _ _ (third ls (and_second (is_char 92 l) _ e)) (known 92 (λ c. c == 0x2039) refl l (and_first (is_char 92 l) _ e))
    exclusive_by l ls (inr e) = rw (known 0x203A (λ c. c == 92) refl l e, known 0x203A (λ c. c == 0x2039) refl l e) refl

-- the measure, from a place on where so many brackets stand open
abbrev pub Walk : Nest → ℕ → List Letter → Option ℕ
Walk n d ls = nested_from n 0 d ls

some_length : (n : Nest) (ls : List Letter) (k : ℕ) → 0 < k → k ≤ length ls → 0 < length ls
some_length n ls k h f = omega (arith, h, f)

front_open : (n : Nest) (ls : List Letter) → 0 < opening n ls → front n ls ≡ opening n ls
front_open n ls h = rw (lt_some (opening n ls) h) refl

front_close : (n : Nest) (ls : List Letter) → 0 < closing n ls → front n ls ≡ closing n ls
front_close n ls h = rw (lt_none (opening n ls) (exclusive n ls h), lt_some (closing n ls) h) refl

front_other : (n : Nest) (ls : List Letter) → opening n ls ≡ 0 → closing n ls ≡ 0 → front n ls ≡ 1
front_other n ls h k = rw (lt_none (opening n ls) h, lt_none (closing n ls) k) refl

depth_open : (n : Nest) (d : ℕ) (ls : List Letter) → 0 < opening n ls → depth_after n d ls ≡ d + 1
depth_open n d ls h = rw (lt_some (opening n ls) h) refl

depth_close : (n : Nest) (d : ℕ) (ls : List Letter) → 0 < closing n ls → depth_after n d ls ≡ d - 1
depth_close n d ls h = rw (lt_none (opening n ls) (exclusive n ls h), lt_some (closing n ls) h) refl

depth_other : (n : Nest) (d : ℕ) (ls : List Letter) → opening n ls ≡ 0 → closing n ls ≡ 0 → depth_after n d ls ≡ d
depth_other n d ls h k = rw (lt_none (opening n ls) h, lt_none (closing n ls) k) refl

last_by : (b : Bool) (x y : ℕ) → x ≡ y → 0 < y → (b && x == 0) ≡ false
last_by b x y e h = rw (e, eq_some y h) (and_false b)

-- an opening
pub walk_open : (n : Nest) (d : ℕ) (ls : List Letter) → 0 < opening n ls → Walk n d ls ≡ option_map (λ k. opening n ls + k) (Walk n (d + 1) (drop (opening n ls) ls))
walk_open n d ls h =
    let some : 0 < length ls = some_length n ls (opening n ls) h (opening_fits n ls) in
    let goes : is_last n d ls ≡ false = last_by (nat_lt 0 (closing n ls)) (depth_after n d ls) (d + 1) (depth_open n d ls h) (omega arith) in
    let step = nested_step n (opening n ls) d ls some goes (sym (front_open n ls h)) h (opening_fits n ls) in
    step ∙ ap (λ m. option_map (λ k. opening n ls + k) (nested_from n 0 m (drop (opening n ls) ls))) (depth_open n d ls h)

-- a closing, of the only bracket that is open, and of another
pub walk_last : (n : Nest) (ls : List Letter) → 0 < closing n ls → Walk n 1 ls ≡ Some (closing n ls)
walk_last n ls h =
    let some : 0 < length ls = some_length n ls (closing n ls) h (closing_fits n ls) in
    let last : is_last n 1 ls ≡ true = rw (lt_some (closing n ls) h, lt_none (opening n ls) (exclusive n ls h)) refl in
    nested_end n 1 ls some last ∙ ap (λ k. Some k) (front_close n ls h)

pub walk_close : (n : Nest) (d : ℕ) (ls : List Letter) → 0 < closing n ls → Walk n (suc (suc d)) ls ≡ option_map (λ k. closing n ls + k) (Walk n (suc d) (drop (closing n ls) ls))
walk_close n d ls h =
    let some : 0 < length ls = some_length n ls (closing n ls) h (closing_fits n ls) in
    let less : suc (suc d) - 1 ≡ suc d = omega arith in
    let depth : depth_after n (suc (suc d)) ls ≡ suc d = depth_close n (suc (suc d)) ls h ∙ less in
    let goes : is_last n (suc (suc d)) ls ≡ false = last_by (nat_lt 0 (closing n ls)) (depth_after n (suc (suc d)) ls) (suc d) depth (omega arith) in
    let step = nested_step n (closing n ls) (suc (suc d)) ls some goes (sym (front_close n ls h)) h (closing_fits n ls) in
    step ∙ ap (λ m. option_map (λ k. closing n ls + k) (nested_from n 0 m (drop (closing n ls) ls))) depth

-- another letter
pub walk_other : (n : Nest) (d : ℕ) (l : Letter) (ls : List Letter) → opening n (l ∷ ls) ≡ 0 → closing n (l ∷ ls) ≡ 0 → Walk n d (l ∷ ls) ≡ option_map (λ k. 1 + k) (Walk n d ls)
walk_other n d l ls h k =
    let goes : is_last n d (l ∷ ls) ≡ false = rw (lt_none (closing n (l ∷ ls)) k) refl in
    let step = nested_step n 1 d (l ∷ ls) (omega arith) goes (sym (front_other n (l ∷ ls) h k)) (omega arith) (omega arith) in
    step ∙ ap (λ m. option_map (λ k. 1 + k) (nested_from n 0 m ls)) (depth_other n d (l ∷ ls) h k)

-- what is read in front of the rest, as a number of letters, and how the measure goes on past it
pub record Passed (n : Nest) (ls rest : List Letter) : Type 0 where
  pub count : ℕ
  pub fits : count ≤ length ls
  pub left : drop count ls ≡ rest
  pub goes : (d : ℕ) → Walk n (suc d) ls ≡ option_map (λ k. count + k) (Walk n (suc d) rest)

pub record Ended (n : Nest) (ls rest : List Letter) : Type 0 where
  pub passed : Passed n ls rest
  pub ends : Walk n 0 ls ≡ Some passed.count

passed_none : (n : Nest) (ls : List Letter) → Passed n ls ls
passed_none n ls = record { count = 0; fits = omega arith; left = refl; goes = λ d. counted_none (Walk n (suc d) ls) }

passed_other : (n : Nest) (l : Letter) (ls rest : List Letter) → opening n (l ∷ ls) ≡ 0 → closing n (l ∷ ls) ≡ 0 → Passed n ls rest → Passed n (l ∷ ls) rest
passed_other n l ls rest h k p = record {
  count = 1 + p.count;
  fits = omega (arith, p.fits);
  left = sym (drop-drop p.count 1 (l ∷ ls)) ∙ p.left;
  goes = λ d. walk_other n (suc d) l ls h k ∙ (ap (option_map (λ k. 1 + k)) (p.goes d) ∙ counted_both 1 p.count (Walk n (suc d) rest));
}

passed_both : (n : Nest) (ls mid rest : List Letter) → Passed n ls mid → Passed n mid rest → Passed n ls rest
passed_both n ls mid rest p q = record {
  count = p.count + q.count;
  fits = omega (arith, p.fits, q.fits, ap length p.left, length-drop p.count ls);
  left = sym (drop-drop q.count p.count ls) ∙ (ap (drop q.count) p.left ∙ q.left);
  goes = λ d. p.goes d ∙ (ap (option_map (λ k. p.count + k)) (q.goes d) ∙ counted_both p.count q.count (Walk n (suc d) rest));
}

passed_whole : (n : Nest) (ls mid : List Letter) → 0 < opening n ls → Passed n (drop (opening n ls) ls) mid → 0 < closing n mid → Ended n ls (drop (closing n mid) mid)
passed_whole n ls mid h p k =
    let o : ℕ = opening n ls in
    let c : ℕ = closing n mid in
    let rest : List Letter = drop c mid in
    record {
      passed = record {
        count = o + p.count + c;
        fits = omega (arith, p.fits, opening_fits n ls, closing_fits n mid, ap length p.left, length-drop o ls, length-drop p.count (drop o ls));
        left = sym (drop-drop c (o + p.count) ls) ∙ ap (drop c) (sym (drop-drop p.count o ls) ∙ p.left);
        goes = λ d.
            let e : suc d + 1 ≡ suc (suc d) = omega arith in
            walk_open n (suc d) ls h
            ∙ (ap (λ x. option_map (λ k. o + k) (Walk n x (drop o ls))) e
            ∙ (ap (option_map (λ k. o + k)) (p.goes (suc d))
            ∙ (counted_both o p.count (Walk n (suc (suc d)) mid)
            ∙ (ap (option_map (λ k. o + p.count + k)) (walk_close n d mid k)
            ∙ counted_both (o + p.count) c (Walk n (suc d) rest)))));
      };
      ends =
          let e : 0 + 1 ≡ 1 = refl in
          let f : o + (p.count + c) ≡ o + p.count + c = omega arith in
          walk_open n 0 ls h
          ∙ (ap (option_map (λ k. o + k)) (p.goes 0 ∙ ap (option_map (λ k. p.count + k)) (walk_last n mid k))
          ∙ ap (λ x. Some x) f);
    }

mutual
  pub whole_ends : (n : Nest) (ls rest : List Letter) → IsWhole n ls rest → Ended n ls rest
  whole_ends m ks rest (whole n ls mid h b k) = passed_whole n ls mid h (body_passes n (drop (opening n ls) ls) mid b) k

  pub body_passes : (n : Nest) (ls rest : List Letter) → IsBody n ls rest → Passed n ls rest
  body_passes m ks end (done n ls) = passed_none n ls
  body_passes m ks end (other n l ls rest h k b) = passed_other n l ls rest h k (body_passes n ls rest b)
  body_passes m ks end (bracket n ls mid rest w b) = passed_both n ls mid rest (whole_ends n ls mid w).passed (body_passes n mid rest b)

-- so many bodies and closings, one after another
abbrev pub ClosedUp : Nest → ℕ → List Letter → List Letter → Type 0
ClosedUp n zero ls rest = ls ≡ rest
ClosedUp n (suc d) ls rest = (mid : List Letter) × (IsBody n ls mid × ((0 < closing n mid) × ClosedUp n d (drop (closing n mid) mid) rest))

opened : (n : Nest) (d : ℕ) (ls rest : List Letter) → 0 < opening n ls → ClosedUp n (suc (suc d)) (drop (opening n ls) ls) rest → ClosedUp n (suc d) ls rest
opened n d ls rest h c =
    let mid = c.0 in
    let next = c.1.1.1 in
    (next.0, (bracket n ls (drop (closing n mid) mid) (next.0) (whole n ls mid h (c.1.0) (c.1.1.0)) (next.1.0), next.1.1))

left_by : (n : Nest) (d a k j : ℕ) (ls : List Letter) → a + k ≡ j → ClosedUp n d (drop a ls) (drop k (drop a ls)) → ClosedUp n d (drop a ls) (drop j ls)
left_by n d a k j ls e c = subst (ClosedUp n d (drop a ls)) (drop-drop k a ls ∙ ap (λ i. drop i ls) e) c

cases_of : (n : Nest) (ls : List Letter) → (0 < opening n ls) ⊎ ((0 < closing n ls) ⊎ ((opening n ls ≡ 0) × (closing n ls ≡ 0)))
cases_of n ls = by_sizes (opening n ls) (closing n ls)
  where
    by_sizes : (a b : ℕ) → (0 < a) ⊎ ((0 < b) ⊎ ((a ≡ 0) × (b ≡ 0)))
    by_sizes (suc a) b = inl (omega arith)
    by_sizes zero (suc b) = inr (inl (omega arith))
    by_sizes zero zero = inr (inr (refl, refl))

-- what the measure takes is closed
abbrev ClosesBy : ℕ → Type 0
ClosesBy fuel = (n : Nest) (ls : List Letter) (d k : ℕ) → length ls ≤ fuel → Walk n (suc d) ls ≡ Some k → ClosedUp n (suc d) ls (drop k ls)

close_at : (fuel : ℕ) → ClosesBy fuel → (n : Nest) (l : Letter) (ls : List Letter) (d k : ℕ) → length ls ≤ fuel → Walk n (suc d) (l ∷ ls) ≡ Some k → (0 < opening n (l ∷ ls)) ⊎ ((0 < closing n (l ∷ ls)) ⊎ ((opening n (l ∷ ls) ≡ 0) × (closing n (l ∷ ls) ≡ 0))) → ClosedUp n (suc d) (l ∷ ls) (drop k (l ∷ ls))
close_at fuel f n l ls d k h e (inl o) =
    let all : List Letter = l ∷ ls in
    let a : ℕ = opening n all in
    let m = some_of (λ k. a + k) (Walk n (suc d + 1) (drop a all)) k (sym (walk_open n (suc d) all o) ∙ e) in
    let depth : suc d + 1 ≡ suc (suc d) = omega arith in
    let walk : Walk n (suc (suc d)) (drop a all) ≡ Some (m.0) = ap (λ x. Walk n x (drop a all)) (sym depth) ∙ m.1.0 in
    let rest = f n (drop a all) (suc d) (m.0) (omega (arith, h, o, length-drop a all)) walk in
    opened n d all (drop k all) o (left_by n (suc (suc d)) a (m.0) k all (m.1.1) rest)
close_at fuel f n l ls zero k h e (inr (inl c)) =
    let all : List Letter = l ∷ ls in
    let is : Some (closing n all) ≡ Some k = sym (walk_last n all c) ∙ e in
    (all, (done n all, (c, ap (λ o. drop (unwrap_or o 0) all) is)))
close_at fuel f n l ls (suc d) k h e (inr (inl c)) =
    let all : List Letter = l ∷ ls in
    let a : ℕ = closing n all in
    let m = some_of (λ k. a + k) (Walk n (suc d) (drop a all)) k (sym (walk_close n d all c) ∙ e) in
    let rest = f n (drop a all) d (m.0) (omega (arith, h, c, length-drop a all)) (m.1.0) in
    (all, (done n all, (c, left_by n (suc d) a (m.0) k all (m.1.1) rest)))
close_at fuel f n l ls d k h e (inr (inr z)) =
    let m = some_of (λ k. 1 + k) (Walk n (suc d) ls) k (sym (walk_other n (suc d) l ls (z.0) (z.1)) ∙ e) in
    let rest = left_by n (suc d) 1 (m.0) k (l ∷ ls) (m.1.1) (f n ls d (m.0) h (m.1.0)) in
    (rest.0, (other n l ls (rest.0) (z.0) (z.1) (rest.1.0), rest.1.1))

walk_nil : (n : Nest) (d : ℕ) → Walk n d [] ≡ None
unfolding nested_from
walk_nil n d = refl

pub closes_by : (fuel : ℕ) → ClosesBy fuel
closes_by fuel n [] d k h e = absurd (let bad : None ≡ Some k = sym (walk_nil n (suc d)) ∙ e in cc)
closes_by zero n (l ∷ ls) d k h e = absurd (omega (arith, h))
closes_by (suc fuel) n (l ∷ ls) d k h e = close_at fuel (closes_by fuel) n l ls d k (omega (arith, h)) e (cases_of n (l ∷ ls))

pub whole_is : (n : Nest) (ls : List Letter) (k : ℕ) → 0 < opening n ls → Walk n 0 ls ≡ Some k → IsWhole n ls (drop k ls)
whole_is n ls k o e =
    let a : ℕ = opening n ls in
    let m = some_of (λ k. a + k) (Walk n 1 (drop a ls)) k (sym (walk_open n 0 ls o) ∙ e) in
    let c = left_by n 1 a (m.0) k ls (m.1.1) (closes_by (length (drop a ls)) n (drop a ls) 0 (m.0) (omega arith) (m.1.0)) in
    subst (IsWhole n ls) (c.1.1.1) (whole n ls (c.0) o (c.1.0) (c.1.1.0))
