-- All leaves of a search, pull by pull.
use Rattle.std.proofs.Common.{◌≡◌, ℕ, ◌+◌, ◌≤◌, List, [], ◌∷◌, ◌++◌, Option, None, Some, Result, Ok, Err, true, map, refl, ap, sym, ◌∙◌, arith, append_assoc}
use Rattle.std.proofs.lemmas.List.{append-nil, map-append}
use Rattle.std.proofs.lemmas.List.Elements.{All-append, All-cons, All-nil}
use Rattle.std.specs.List.{All}
use Rattle.iv_text.specs.declared.want.Want.{Want}
use Rattle.iv_text.specs.declared.want.Want.TheVariants.{Number}
use Rattle.iv_seq.specs.Moments.{Moment, Pass, begins, too_large, passes, meets, works, work_of, work_before, work_in, leaves_in, large_first, has_large}
use Rattle.iv_seq.specs.Pull.{Pulled, Within, Fitting}
use Rattle.iv_seq.proofs.Theory.{failing, same_error, cost-works, leaves_gave, leaves_ended}

work-works : {A : Type 0} (n : List Pass) (m : List (Moment A)) → work_in (works n m) ≡ work_of n + work_in m
work-works [] m = omega arith
work-works (begins ∷ n) m = omega (arith, work-works n m)
work-works (too_large ∷ n) m = work-works n m

first_of_all : {A : Type 0} (m : List (Moment A)) → work_before m 1 ≤ work_in m
first_of_all [] = omega arith
first_of_all (passes begins ∷ m) = omega (arith, first_of_all m)
first_of_all (passes too_large ∷ m) = first_of_all m
first_of_all (meets x ∷ m) = let e : work_before m 0 ≡ 0 = refl in omega (arith, e)

large_there : {A : Type 0} (m : List (Moment A)) → large_first m ≡ true → has_large m ≡ true
large_there [] h = h
large_there (passes begins ∷ m) h = large_there m h
large_there (passes too_large ∷ m) h = refl
large_there (meets x ∷ m) h = absurd (let bad : ⊥ = cc in bad)

large-left : {A : Type 0} (n : List Pass) (m : List (Moment A)) → has_large m ≡ true → has_large (works n m) ≡ true
large-left [] m h = h
large-left (begins ∷ n) m h = large-left n m h
large-left (too_large ∷ n) m h = refl

-- what was found so far, and what is left, is the whole: its leaves, its test, its work, its cause of Number
pub record Gathering {T A : Type 0} (seen : T → A) (old now : List (Moment A)) (found : List T) (first test : T → Type 0) (start stop : ℕ) : Type 0 where
  pub leaves : map seen found ++ leaves_in now ≡ leaves_in old
  pub items : All (λ x. ∥ first x ∥₁) found
  pub fits : Within test first
  pub cost : stop + work_in now ≤ start + work_in old
  pub large : has_large now ≡ true → has_large old ≡ true

-- one more leaf was found
pub one_more : {T A : Type 0} (seen : T → A) (f : List T) (m : List (Moment A)) (s : ℕ) (x : T) (n : List (Moment A)) (t : ℕ) (all : List A) → map seen f ++ leaves_in m ≡ all → Pulled m s (Ok (Some (seen x))) n t → map seen (f ++ x ∷ []) ++ leaves_in n ≡ all
one_more seen f m s x n t all e p =
    rw (map-append seen f (x ∷ []))
    (append_assoc (map seen f) (seen x ∷ []) (leaves_in n) ∙ (ap (λ w. map seen f ++ w) (sym (leaves_gave m s (seen x) n t p)) ∙ e))

pub no_more : {T A : Type 0} (seen : T → A) (f : List T) (m : List (Moment A)) (s : ℕ) (n : List (Moment A)) (t : ℕ) (all : List A) → map seen f ++ leaves_in m ≡ all → Pulled m s (Ok None) n t → map seen f ≡ all
no_more seen f m s n t all e p = sym (append-nil (map seen f)) ∙ (ap (λ w. map seen f ++ w) (sym (leaves_ended m s n t p)) ∙ e)

pub cost_more : {A : Type 0} (m : List (Moment A)) (s : ℕ) (x : A) (n : List (Moment A)) (t from all : ℕ) → s + work_in m ≤ from + all → Pulled m s (Ok (Some x)) n t → t + work_in n ≤ from + all
cost_more m s x n t from all h p =
    let a : work_before m 1 ≡ work_of p.passed + work_before (meets x ∷ n) 1 = rw p.order (cost-works p.passed (meets x ∷ n)) in
    let z : work_before n 0 ≡ 0 = refl in
    let b : work_in m ≡ work_of p.passed + work_in n = rw p.order (work-works p.passed (meets x ∷ n)) in
    omega (arith, h, p.cost, a, b, z)

pub cost_done : {A : Type 0} (m : List (Moment A)) (s : ℕ) (r : Result (Option A) Want) (n : List (Moment A)) (t from all : ℕ) → s + work_in m ≤ from + all → Pulled m s r n t → t ≤ from + all
cost_done m s r n t from all h p = omega (arith, h, p.cost, first_of_all m)

pub large_more : {A : Type 0} (m : List (Moment A)) (s : ℕ) (x : A) (n : List (Moment A)) (t : ℕ) → Pulled m s (Ok (Some x)) n t → has_large n ≡ true → has_large m ≡ true
large_more m s x n t p h = rw p.order (large-left p.passed (meets x ∷ n) h)

pub large_done : (T A : Type 0) (m : List (Moment A)) (s : ℕ) (w : Want) (n : List (Moment A)) (t : ℕ) → Pulled m s (Err w) n t → failing T w ≡ failing T Number → has_large m ≡ true
large_done T A m s w n t p e = large_there m (p.number (same_error (Option A) T w Number e))

-- one more item fits
pub one_more_fits : {A : Type 0} (P Q Q' : A → Type 0) (found : List A) (x : A) → All (λ y. ∥ P y ∥₁) found → Within Q P → Fitting Q (Ok (Some x)) Q' → All (λ y. ∥ P y ∥₁) (found ++ x ∷ [])
one_more_fits P Q Q' found x h w f = All-append (λ y. ∥ P y ∥₁) found (x ∷ []) h (All-cons (λ y. ∥ P y ∥₁) x [] (w x f.item) (All-nil (λ y. ∥ P y ∥₁)))
