-- A search tree and its moments are two readings of one search.
use Rattle.std.proofs.Common.{◌≡◌, ℕ, zero, suc, ◌+◌, ◌-◌, ◌<◌, ◌≤◌, Bool, true, false, cond, ◌||◌, List, [], ◌∷◌, ◌++◌, Option, None, Some, Result, Ok, Err, refl, ap, sym, ◌∙◌, arith, append_assoc, length}
use Rattle.std.specs.List.{flat_map}
use Rattle.std.proofs.lemmas.List.{append-nil}
use Rattle.iv_text.specs.declared.want.Want.{Want}
use Rattle.iv_text.specs.declared.want.Want.TheVariants.{Number}
use Rattle.iv_seq.specs.SearchTree.{SearchTree, none, one, join, work, large, leaves, has_leaf, starts_large, before, bind, or_else, take, lead, up_to, rest}
use Rattle.iv_seq.specs.Moments.{Moment, Pass, begins, too_large, passes, meets, moments_of, leaves_in, meets_any, large_first, work_before, work_in, bound, either, cut, lead_in, within, after, works}
use Rattle.iv_seq.specs.Pull.{Pulled}
use Rattle.iv_seq.specs.Laws.{PullSays}
use Rattle.iv_seq.proofs.Theory.{leaves-append, leaves-works, bound-append}

-- appended searches
meets-append : {A : Type 0} (m v : List (Moment A)) → meets_any (m ++ v) ≡ (meets_any m || meets_any v)
meets-append [] v = refl
meets-append (passes p ∷ m) v = meets-append m v
meets-append (meets x ∷ m) v = refl

work-none : (A : Type 0) (k : ℕ) → work_before {A = A} [] k ≡ 0
work-none A zero = refl
work-none A (suc k) = refl

work-append : {A : Type 0} (m v : List (Moment A)) (k : ℕ) → work_before (m ++ v) k ≡ work_before m k + work_before v (k - length (leaves_in m))
work-append {A} m v zero = let e : zero - length (leaves_in m) ≡ zero = omega arith in rw e refl
work-append {A} [] v (suc k) = let e : suc k - 0 ≡ suc k = omega arith in rw e (omega arith)
work-append (passes begins ∷ m) v (suc k) = omega (arith, work-append m v (suc k))
work-append (passes too_large ∷ m) v (suc k) = work-append m v (suc k)
work-append (meets x ∷ m) v (suc k) =
    let e : suc k - suc (length (leaves_in m)) ≡ k - length (leaves_in m) = omega arith in rw e (work-append m v k)

pushed : {A : Type 0} (p : Pass) (b : Bool) (l r : List (Moment A)) → passes p ∷ cond b l r ≡ cond b (passes p ∷ l) (passes p ∷ r)
pushed p true l r = refl
pushed p false l r = refl

lead-append : {A : Type 0} (m v : List (Moment A)) → lead_in (m ++ v) ≡ cond (meets_any m) (lead_in m) (m ++ lead_in v)
lead-append [] v = refl
lead-append (passes p ∷ m) v = ap (λ w. passes p ∷ w) (lead-append m v) ∙ pushed p (meets_any m) (lead_in m) (m ++ lead_in v)
lead-append (meets x ∷ m) v = refl

after-append : {A : Type 0} (m v : List (Moment A)) → after (m ++ v) ≡ cond (meets_any m) (after m ++ v) (after v)
after-append [] v = refl
after-append (passes p ∷ m) v = after-append m v
after-append (meets x ∷ m) v = refl

within-none : (A : Type 0) (n : ℕ) → within {A = A} n [] ≡ []
within-none A zero = refl
within-none A (suc n) = refl

within-append : {A : Type 0} (n : ℕ) (m v : List (Moment A)) → within n (m ++ v) ≡ within n m ++ within (n - length (leaves_in m)) v
within-append zero m v = let e : zero - length (leaves_in m) ≡ zero = omega arith in rw e refl
within-append (suc n) [] v = let e : suc n - 0 ≡ suc n = omega arith in rw e refl
within-append (suc n) (passes p ∷ m) v = ap (λ w. passes p ∷ w) (within-append (suc n) m v)
within-append (suc n) (meets x ∷ m) v =
    let e : suc n - suc (length (leaves_in m)) ≡ n - length (leaves_in m) = omega arith in rw e (ap (λ w. meets x ∷ w) (within-append n m v))

-- the readings
pub read_leaves : {A : Type 0} (t : SearchTree A) → leaves_in (moments_of t) ≡ leaves t
read_leaves none = refl
read_leaves (one x) = refl
read_leaves (join t u) = rw (leaves-append (moments_of t) (moments_of u), read_leaves t, read_leaves u) refl
read_leaves (work t) = read_leaves t
read_leaves large = refl

pub read_meets : {A : Type 0} (t : SearchTree A) → meets_any (moments_of t) ≡ has_leaf t
read_meets none = refl
read_meets (one x) = refl
read_meets (join t u) = rw (meets-append (moments_of t) (moments_of u), read_meets t, read_meets u) refl
read_meets (work t) = read_meets t
read_meets large = refl

-- a number that is too large in a join: in the first part, or after it where it has no leaf
large-join : {A : Type 0} (m v : List (Moment A)) → large_first (m ++ v) ≡ cond (meets_any m) (large_first m) (large_first m || large_first v)
large-join [] v = refl
large-join (passes begins ∷ m) v = large-join m v
large-join (passes too_large ∷ m) v = elim (meets_any m) as (λ b. true ≡ cond b true true) [ true ↦ refl | false ↦ refl ]
large-join (meets x ∷ m) v = refl

pub read_large : {A : Type 0} (t : SearchTree A) → large_first (moments_of t) ≡ starts_large t
read_large none = refl
read_large (one x) = refl
read_large (join t u) = rw (large-join (moments_of t) (moments_of u), read_meets t, read_large t, read_large u) refl
read_large (work t) = read_large t
read_large large = refl

pub read_work : {A : Type 0} (t : SearchTree A) (k : ℕ) → work_before (moments_of t) k ≡ before t k
read_work {A} none k = work-none A k
read_work (one x) zero = refl
read_work {A} (one x) (suc k) = work-none A k
read_work (join t u) k =
    rw (work-append (moments_of t) (moments_of u) k, read_work t k, read_leaves t, read_work u (k - length (leaves t))) refl
read_work (work t) zero = refl
read_work (work t) (suc k) = ap suc (read_work t (suc k))
read_work {A} large zero = refl
read_work {A} large (suc k) = work-none A (suc k)

-- all work comes before a leaf that isn't there
work-past : {A : Type 0} (m : List (Moment A)) (k : ℕ) → length (leaves_in m) < k → work_before m k ≡ work_in m
work-past m zero h = absurd (omega (arith, h))
work-past [] (suc k) h = refl
work-past (passes begins ∷ m) (suc k) h = ap suc (work-past m (suc k) h)
work-past (passes too_large ∷ m) (suc k) h = work-past m (suc k) h
work-past (meets x ∷ m) (suc k) h = work-past m k (omega (arith, h))

pub read_all_work : {A : Type 0} (t : SearchTree A) (k : ℕ) → length (leaves t) < k → before t k ≡ work_in (moments_of t)
read_all_work t k h = sym (read_work t k) ∙ work-past (moments_of t) k (rw (read_leaves t) h)

pub read_bind : {A B : Type 0} (t : SearchTree A) (f : A → SearchTree B) → moments_of (bind t f) ≡ bound (moments_of t) (λ x. moments_of (f x))
read_bind none f = refl
read_bind (one x) f = sym (append-nil (moments_of (f x)))
read_bind (join t u) f = rw (bound-append (moments_of t) (moments_of u) (λ x. moments_of (f x)), read_bind t f, read_bind u f) refl
read_bind (work t) f = ap (λ w. passes begins ∷ w) (read_bind t f)
read_bind large f = refl

read_cond : {A : Type 0} (b : Bool) (t u : SearchTree A) → moments_of (cond b t u) ≡ cond b (moments_of t) (moments_of u)
read_cond true t u = refl
read_cond false t u = refl

pub read_or_else : {A : Type 0} (t u : SearchTree A) → moments_of (or_else t u) ≡ either (moments_of t) (moments_of u)
read_or_else t u = rw (read_cond (has_leaf t) t (join t u), read_meets t) refl

read_lead : {A : Type 0} (t : SearchTree A) → moments_of (lead t) ≡ lead_in (moments_of t)
read_lead none = refl
read_lead (one x) = refl
read_lead (join t u) =
    rw (read_cond (has_leaf t) (lead t) (join t (lead u)), lead-append (moments_of t) (moments_of u), read_meets t, read_lead t, read_lead u) refl
read_lead (work t) = ap (λ w. passes begins ∷ w) (read_lead t)
read_lead large = refl

read_up_to : {A : Type 0} (n : ℕ) (t : SearchTree A) → moments_of (up_to n t) ≡ within n (moments_of t)
read_up_to zero t = refl
read_up_to (suc n) none = refl
read_up_to {A} (suc n) (one x) = ap (λ w. meets x ∷ w) (sym (within-none A n))
read_up_to (suc n) (join t u) =
    rw (within-append (suc n) (moments_of t) (moments_of u), read_leaves t, read_up_to (suc n) t, read_up_to (suc n - length (leaves t)) u) refl
read_up_to (suc n) (work t) = ap (λ w. passes begins ∷ w) (read_up_to (suc n) t)
read_up_to (suc n) large = refl

pub read_take : {A : Type 0} (n : ℕ) (t : SearchTree A) → moments_of (take n t) ≡ cut n (moments_of t)
read_take zero t = read_lead t
read_take (suc n) t = read_up_to (suc n) t

pub read_rest : {A : Type 0} (t : SearchTree A) → moments_of (rest t) ≡ after (moments_of t)
read_rest none = refl
read_rest (one x) = refl
read_rest (join t u) =
    rw (read_cond (has_leaf t) (join (rest t) u) (rest u), after-append (moments_of t) (moments_of u), read_meets t, read_rest t, read_rest u) refl
read_rest (work t) = read_rest t
read_rest large = refl

pub read_all : {A : Type 0} (m : List (Moment A)) → (t : SearchTree A) × (moments_of t ≡ m)
read_all [] = (none, refl)
read_all (passes begins ∷ m) = let r = read_all m in (work r.0, ap (λ w. passes begins ∷ w) r.1)
read_all (passes too_large ∷ m) = let r = read_all m in (join large r.0, ap (λ w. passes too_large ∷ w) r.1)
read_all (meets x ∷ m) = let r = read_all m in (join (one x) r.0, ap (λ w. meets x ∷ w) r.1)

after_costs : {A : Type 0} (m : List (Moment A)) (k : ℕ) → meets_any m ≡ true → work_before (after m) k ≡ work_before m (suc k) - work_before m 1
after_costs [] k h = absurd (let bad : ⊥ = cc in bad)
after_costs (passes begins ∷ m) k h = omega (arith, after_costs m k h)
after_costs (passes too_large ∷ m) k h = after_costs m k h
after_costs (meets x ∷ m) k h = let e : work_before m 0 ≡ 0 = refl in omega (arith, e)

pub rest_costs : {A : Type 0} (t : SearchTree A) (k : ℕ) → has_leaf t ≡ true → before (rest t) k ≡ before t (k + 1) - before t 1
rest_costs t k h =
    let e : k + 1 ≡ suc k = omega arith in
    rw (e, ← read_work (rest t) k, ← read_work t (suc k), ← read_work t 1, read_rest t) (after_costs (moments_of t) k (read_meets t ∙ h))

-- work in front
after-works : {A : Type 0} (n : List Pass) (m : List (Moment A)) → after (works n m) ≡ after m
after-works [] m = refl
after-works (p ∷ n) m = after-works n m

no_dearer : {A : Type 0} (n : List Pass) (m : List (Moment A)) (k : ℕ) → work_before m k ≤ work_before (works n m) k
no_dearer [] m k = omega arith
no_dearer (begins ∷ n) m zero = omega arith
no_dearer (too_large ∷ n) m zero = omega arith
no_dearer (begins ∷ n) m (suc k) = omega (arith, no_dearer n m (suc k))
no_dearer (too_large ∷ n) m (suc k) = no_dearer n m (suc k)

cost_read : {A : Type 0} (t : SearchTree A) (s u : ℕ) → u ≤ s + work_before (moments_of t) 1 → u ≤ s + before t 1
cost_read t s u h = omega (arith, read_work t 1, h)

pub pull_says : {A : Type 0} (t : SearchTree A) (s : ℕ) (r : Result (Option A) Want) (n : List (Moment A)) (u : ℕ) → Pulled (moments_of t) s r n u → PullSays t s r n u
pull_says t s (Ok (Some y)) n u p =
    let l : leaves t ≡ y ∷ leaves_in n = sym (read_leaves t) ∙ (ap leaves_in p.order ∙ leaves-works p.passed (meets y ∷ n)) in
    let a : moments_of (rest t) ≡ n = read_rest t ∙ (ap after p.order ∙ after-works p.passed (meets y ∷ n)) in
    let b : leaves (rest t) ≡ leaves_in n = sym (read_leaves (rest t)) ∙ ap leaves_in a in
    record {
      first = λ x e. let q : y ≡ x = cc in (rw (b, ← q) l, sym a);
      none = λ e. absurd (let bad : ⊥ = cc in bad);
      no_leaf = λ k o e. absurd (let bad : ⊥ = (let h : [] ≡ y ∷ leaves_in n = sym k ∙ l in cc) in bad);
      kept = λ w e. absurd (let bad : ⊥ = cc in bad);
      no_dearer = λ w e k. absurd (let bad : ⊥ = cc in bad);
      number = λ e. absurd (let bad : ⊥ = cc in bad);
      cost = cost_read t s u p.cost;
    }
pull_says {A} t s (Ok None) n u p = record {
  first = λ x e. absurd (let bad : ⊥ = cc in bad);
  none = λ e. (sym (read_leaves t) ∙ (ap leaves_in p.order ∙ (leaves-works p.passed n ∙ ap leaves_in p.ended)), p.ended);
  no_leaf = λ k o e. cc;
  kept = λ w e. absurd (let bad : ⊥ = cc in bad);
  no_dearer = λ w e k. absurd (let bad : ⊥ = cc in bad);
  number = λ e. absurd (let bad : ⊥ = cc in bad);
  cost = cost_read t s u p.cost;
}
pull_says t s (Err v) n u p = record {
  first = λ x e. absurd (let bad : ⊥ = cc in bad);
  none = λ e. absurd (let bad : ⊥ = cc in bad);
  no_leaf = λ k o e. absurd (let bad : ⊥ = cc in bad);
  kept = λ w e. sym (leaves-works p.passed n) ∙ (ap leaves_in (sym p.order) ∙ read_leaves t);
  no_dearer = λ w e k. rw (← read_work t k, p.order) (no_dearer p.passed n k);
  number = λ e. sym (read_large t) ∙ p.number (let k : v ≡ Number = cc in ap (λ y. Err y) k);
  cost = cost_read t s u p.cost;
}

-- the leaves of a bind
pub leaves-bound : {A B : Type 0} (m : List (Moment A)) (f : A → List (Moment B)) → leaves_in (bound m f) ≡ flat_map (λ x. leaves_in (f x)) (leaves_in m)
leaves-bound [] f = refl
leaves-bound (passes p ∷ m) f = leaves-bound m f
leaves-bound (meets x ∷ m) f = leaves-append (f x) (bound m f) ∙ ap (λ w. leaves_in (f x) ++ w) (leaves-bound m f)
