-- Pulls on a list, on parts of a choice, and on a search that is cut.
use Rattle.std.proofs.Common.{◌≡◌, ℕ, zero, suc, ◌-◌, ◌<◌, ◌≤◌, List, [], ◌∷◌, ◌++◌, Option, None, Some, Result, Ok, Err, Bool, true, false, cond, refl, ap, sym, ◌∙◌, arith, reverse, option_to_list}
use Rattle.std.proofs.Math.Logic.{∥∥₁_map}
use Rattle.std.proofs.lemmas.List.Elements.{Contains-push, Contains-append_left}
use Rattle.std.proofs.lemmas.List.Sorted.{Contains-permutation, IsPermutation-sym, IsPermutation-reverse}
use Rattle.std.specs.List.{Contains}
use Rattle.iv_text.specs.declared.want.Want.{Want}
use Rattle.iv_seq.specs.Moments.{Moment, Pass, begins, too_large, passes, meets, works, work_before, either, meets_any, within, lead_in, cut, large_first}
use Rattle.iv_seq.specs.Pull.{Pulled, Fitting, Same, came, Ended}
use Rattle.iv_seq.proofs.Theory.{front_failed, ended_then}

-- where the first search meets a leaf, it is the whole
meets-works : {A : Type 0} (n : List Pass) (m : List (Moment A)) → meets_any (works n m) ≡ meets_any m
meets-works [] m = refl
meets-works (p ∷ n) m = meets-works n m

either_first : {A : Type 0} (m v : List (Moment A)) → meets_any m ≡ true → either m v ≡ m
either_first m v h = rw h refl

either_both : {A : Type 0} (m v : List (Moment A)) → meets_any m ≡ false → either m v ≡ m ++ v
either_both m v h = rw h refl

pub either_gave : {A : Type 0} (b : Bool) (m v : List (Moment A)) (s : ℕ) (x : A) (n : List (Moment A)) (t : ℕ) → Pulled m s (Ok (Some x)) n t → Pulled (cond b m (either m v)) s (Ok (Some x)) n t
either_gave true m v s x n t p = p
either_gave false m v s x n t p =
    let e : meets_any m ≡ true = rw p.order (meets-works p.passed (meets x ∷ n)) in
    rw (either_first m v e) p

either_failed_by : {A : Type 0} (b : Bool) (m v : List (Moment A)) (s : ℕ) (e : Want) (n : List (Moment A)) (t : ℕ) → meets_any n ≡ b → Pulled m s (Err e) n t → Pulled (either m v) s (Err e) (either n v) t
either_failed_by true m v s e n t h p =
    let k : meets_any m ≡ true = ap meets_any p.order ∙ (meets-works p.passed n ∙ h) in
    rw (either_first m v k, either_first n v h) p
either_failed_by false m v s e n t h p =
    let k : meets_any m ≡ false = ap meets_any p.order ∙ (meets-works p.passed n ∙ h) in
    rw (either_both m v k, either_both n v h) (front_failed m v s e n t p)

pub either_failed : {A : Type 0} (b : Bool) (m v : List (Moment A)) (s : ℕ) (e : Want) (n : List (Moment A)) (t : ℕ) → Pulled m s (Err e) n t → Pulled (cond b m (either m v)) s (Err e) (cond b n (either n v)) t
either_failed true m v s e n t p = p
either_failed false m v s e n t p = either_failed_by (meets_any n) m v s e n t refl p

pub either_ended : {A : Type 0} (m v : List (Moment A)) (s : ℕ) (n : List (Moment A)) (t : ℕ) (r : Result (Option A) Want) (w : List (Moment A)) (u : ℕ) → Pulled m s (Ok None) n t → Pulled v t r w u → Pulled (either m v) s r (either n w) u
either_ended m v s n t r w u p q =
    let e : n ≡ [] = p.ended in
    let k : meets_any m ≡ false = ap meets_any p.order ∙ (meets-works p.passed n ∙ ap meets_any e) in
    let h : meets_any n ≡ false = ap meets_any e in
    rw (either_both m v k, either_both n w h) (ended_then m v s n t r w u p q)

-- searches that are cut
abbrev passes_of : {A : Type 0} → List (Moment A) → List Pass
passes_of [] = []
passes_of (passes p ∷ m) = p ∷ passes_of m
passes_of (meets x ∷ m) = []

lead-works : {A : Type 0} (m : List (Moment A)) → lead_in m ≡ works (passes_of m) []
lead-works [] = refl
lead-works (passes p ∷ m) = ap (λ w. passes p ∷ w) (lead-works m)
lead-works (meets x ∷ m) = refl

within-works : {A : Type 0} (k : ℕ) (p : List Pass) (m : List (Moment A)) → within (suc k) (works p m) ≡ works p (within (suc k) m)
within-works k [] m = refl
within-works k (q ∷ p) m = ap (λ w. passes q ∷ w) (within-works k p m)

cost-within : {A : Type 0} (k : ℕ) (m : List (Moment A)) → work_before (within (suc k) m) 1 ≡ work_before m 1
cost-within k [] = refl
cost-within k (passes begins ∷ m) = ap suc (cost-within k m)
cost-within k (passes too_large ∷ m) = cost-within k m
cost-within k (meets x ∷ m) = refl

large-within : {A : Type 0} (k : ℕ) (m : List (Moment A)) → large_first (within (suc k) m) ≡ large_first m
large-within k [] = refl
large-within k (passes begins ∷ m) = large-within k m
large-within k (passes too_large ∷ m) = refl
large-within k (meets x ∷ m) = refl

pub cut_gave : {A : Type 0} (b : Bool) (k : ℕ) (m : List (Moment A)) (s : ℕ) (x : A) (n : List (Moment A)) (t : ℕ) → 0 < k → Pulled m s (Ok (Some x)) n t → Pulled (cond b (within k m) (cut k m)) s (Ok (Some x)) (within (k - 1) n) t
cut_gave b zero m s x n t h p = absurd (omega arith)
cut_gave b (suc k) m s x n t h p =
    let q : Pulled (within (suc k) m) s (Ok (Some x)) (within k n) t = record {
      passed = p.passed;
      order = ap (within (suc k)) p.order ∙ within-works k p.passed (meets x ∷ n);
      ended = tt;
      counts = p.counts;
      cost = omega (arith, p.cost, cost-within k m);
      number = λ e. absurd (let bad : ⊥ = cc in bad);
    } in
    let e : suc k - 1 ≡ k = omega arith in
    rw e (elim b as (λ c. Pulled (cond c (within (suc k) m) (within (suc k) m)) s (Ok (Some x)) (within k n) t) [ true ↦ q | false ↦ q ])

cut_kept : {A : Type 0} (b : Bool) (k : ℕ) (m : List (Moment A)) (s : ℕ) (r : Result (Option A) Want) (n : List (Moment A)) (t : ℕ) → came r n ≡ n → Ended r (within (suc k) n) → Pulled m s r n t → came r (within (suc k) n) ≡ within (suc k) n → Pulled (cond b (within (suc k) m) (within (suc k) m)) s r (cond b (within (suc k) n) (within (suc k) n)) t
cut_kept b k m s r n t e d p f =
    let q : Pulled (within (suc k) m) s r (within (suc k) n) t = record {
      passed = p.passed;
      order = ap (within (suc k)) (p.order ∙ ap (works p.passed) e) ∙ (within-works k p.passed n ∙ ap (works p.passed) (sym f));
      ended = d;
      counts = p.counts;
      cost = omega (arith, p.cost, cost-within k m);
      number = λ w. large-within k m ∙ p.number w;
    } in
    elim b as (λ c. Pulled (cond c (within (suc k) m) (within (suc k) m)) s r (cond c (within (suc k) n) (within (suc k) n)) t) [ true ↦ q | false ↦ q ]

pub cut_failed : {A : Type 0} (b : Bool) (k : ℕ) (m : List (Moment A)) (s : ℕ) (e : Want) (n : List (Moment A)) (t : ℕ) → 0 < k → Pulled m s (Err e) n t → Pulled (cond b (within k m) (cut k m)) s (Err e) (cond b (within k n) (cut k n)) t
cut_failed b zero m s e n t h p = absurd (omega arith)
cut_failed b (suc k) m s e n t h p = cut_kept b k m s (Err e) n t refl tt p refl

pub cut_ended : {A : Type 0} (b : Bool) (k : ℕ) (m : List (Moment A)) (s : ℕ) (n : List (Moment A)) (t : ℕ) → 0 < k → Pulled m s (Ok None) n t → Pulled (cond b (within k m) (cut k m)) s (Ok None) (cond b (within k n) (cut k n)) t
cut_ended b zero m s n t h p = absurd (omega arith)
cut_ended b (suc k) m s n t h p = cut_kept b k m s (Ok None) n t refl (ap (within (suc k)) p.ended) p refl

-- no leaf may come
pub cut_closed : {A : Type 0} (b : Bool) (k : ℕ) (m : List (Moment A)) (s : ℕ) → k ≡ 0 → Pulled (cond b (within k m) (cut k m)) s (Ok None) (within k m) s
cut_closed b zero m s h = elim b as (λ c. Pulled (cond c [] (lead_in m)) s (Ok None) [] s) [
  | true ↦ record { passed = []; order = refl; ended = refl; counts = omega arith; cost = omega arith; number = λ e. absurd (let bad : ⊥ = cc in bad) }
  | false ↦ record { passed = passes_of m; order = lead-works m; ended = refl; counts = omega arith; cost = omega arith; number = λ e. absurd (let bad : ⊥ = cc in bad) }
]
cut_closed b (suc k) m s h = absurd (omega arith)

-- what is in a list is in it from its end
pub turned : {A : Type 0} (xs ys : List A) → ys ≡ reverse xs → Same (Contains ys) (Contains xs)
turned xs ys e = rw e (
  (λ x h. ∥∥₁_map h (Contains-permutation (reverse xs) xs x (IsPermutation-sym xs (reverse xs) (IsPermutation-reverse xs)))),
  (λ x h. ∥∥₁_map h (Contains-permutation xs (reverse xs) x (IsPermutation-reverse xs))),
)

-- the last item of a list is in it, and so are the others
pub popped : {A : Type 0} (xs ys : List A) (r : Option A) → xs ≡ ys ++ option_to_list r → Fitting (Contains xs) (Ok r) (Contains ys)
popped xs ys None e = record { item = tt; narrows = λ z h. ∥∥₁_map h (λ k. rw e (Contains-append_left ys [] z k)) }
popped xs ys (Some x) e = record {
  item = rw e (∣ Contains-push ys x ∣₁);
  narrows = λ z h. ∥∥₁_map h (λ k. rw e (Contains-append_left ys (x ∷ []) z k));
}
