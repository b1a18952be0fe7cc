-- Pulls on parts of a bind.
use Rattle.std.proofs.Common.{◌≡◌, ℕ, suc, ◌+◌, ◌≤◌, List, [], ◌∷◌, ◌++◌, Option, None, Some, Result, Ok, Err, true, false, is_some, refl, ap, ◌∙◌, arith, length}
use Rattle.iv_text.specs.declared.want.Want.{Want}
use Rattle.iv_text.specs.declared.want.Want.TheVariants.{Number}
use Rattle.iv_seq.specs.Moments.{Moment, Pass, begins, too_large, passes, meets, works, work_of, work_before, bound, ready, large_first}
use Rattle.iv_seq.specs.Pull.{Pulled, Advanced, shown}
use Rattle.iv_seq.proofs.Theory.{cost-works, front_advanced, came_to_end, further, bound-works, large-append}

pub cost-bound : {A B : Type 0} (m : List (Moment A)) (f : A → List (Moment B)) → work_before m 1 ≤ work_before (bound m f) 1
cost-bound [] f = omega arith
cost-bound (passes begins ∷ m) f = omega (arith, cost-bound m f)
cost-bound (passes too_large ∷ m) f = cost-bound m f
cost-bound (meets x ∷ m) f = omega arith

pub large-bound : {A B : Type 0} (m : List (Moment A)) (f : A → List (Moment B)) → large_first m ≡ true → large_first (bound m f) ≡ true
large-bound [] f h = absurd (let bad : ⊥ = cc in bad)
large-bound (passes begins ∷ m) f h = large-bound m f h
large-bound (passes too_large ∷ m) f h = refl
large-bound (meets x ∷ m) f h = absurd (let bad : ⊥ = cc in bad)

-- the items to come went on
pub bound_went : {A B : Type 0} (m : List (Moment A)) (f : A → List (Moment B)) (s : ℕ) (n : List (Moment A)) (t : ℕ) → Advanced m s n t → Advanced (bound m f) s (bound n f) t
bound_went m f s n t a = record {
  passed = a.passed;
  order = ap (λ w. bound w f) a.order ∙ bound-works a.passed n f;
  counts = a.counts;
  cost = a.cost;
}

pub bound_stopped : {A B : Type 0} (m : List (Moment A)) (f : A → List (Moment B)) (s : ℕ) (e : Want) (n : List (Moment A)) (t : ℕ) → Pulled m s (Err e) n t → Pulled (bound m f) s (Err e) (bound n f) t
bound_stopped m f s e n t p = record {
  passed = p.passed;
  order = ap (λ w. bound w f) p.order ∙ bound-works p.passed n f;
  ended = tt;
  counts = p.counts;
  cost = omega (arith, p.cost, cost-bound m f);
  number = λ w. large-bound m f (p.number (let k : e ≡ Number = cc in ap (λ y. Err y) k));
}

-- the first part has nothing left, and the items to come go on
pub bound_advanced : {A B : Type 0} (h : List (Moment B)) (m : List (Moment A)) (f : A → List (Moment B)) (s : ℕ) (n : List (Moment A)) (t : ℕ) → h ≡ [] → Advanced m s n t → Advanced (h ++ bound m f) s (h ++ bound n f) t
bound_advanced h m f s n t e a = rw e (bound_went m f s n t a)

pub bound_failed : {A B : Type 0} (h : List (Moment B)) (m : List (Moment A)) (f : A → List (Moment B)) (s : ℕ) (e : Want) (n : List (Moment A)) (t : ℕ) → h ≡ [] → Pulled m s (Err e) n t → Pulled (h ++ bound m f) s (Err e) (h ++ bound n f) t
bound_failed h m f s e n t k p = rw k (bound_stopped m f s e n t p)

-- an item came and is ready
pub fetched : {T A : Type 0} (seen : T → A) (o : Option T) (m : List (Moment A)) (s : ℕ) (r : Option T) (n : List (Moment A)) (t : ℕ) → o ≡ None → Pulled m s (shown seen (Ok r)) n t → Advanced (ready seen o ++ m) s (ready seen r ++ n) t
fetched seen o m s None n t k p = rw (k, p.ended) (came_to_end m s n t p)
fetched seen o m s (Some x) n t k p =
    let c : work_before m 1 ≡ work_of p.passed + work_before (meets (seen x) ∷ n) 1 = rw p.order (cost-works p.passed (meets (seen x) ∷ n)) in
    rw k (record { passed = p.passed; order = p.order; counts = p.counts; cost = omega (arith, p.cost, c) })

pub not_fetched : {T A : Type 0} (seen : T → A) (o : Option T) (m : List (Moment A)) (s : ℕ) (e : Want) (n : List (Moment A)) (t : ℕ) → o ≡ None → Pulled m s (Err e) n t → Pulled (ready seen o ++ m) s (Err e) (ready seen o ++ n) t
not_fetched seen o m s e n t k p = rw k p

-- what has gone on is no longer than it was
length-works : {A : Type 0} (n : List Pass) (m : List (Moment A)) → length (works n m) ≡ length n + length m
length-works [] m = omega arith
length-works (p ∷ n) m = omega (arith, length-works n m)

pub shorter : {A : Type 0} (m : List (Moment A)) (s : ℕ) (n : List (Moment A)) (t : ℕ) → Advanced m s n t → length n ≤ length m
shorter m s n t a = let e : length m ≡ length a.passed + length n = rw a.order (length-works a.passed n) in omega (arith, e)

pub shorter_gave : {A : Type 0} (m : List (Moment A)) (s : ℕ) (x : A) (n : List (Moment A)) (t : ℕ) → Pulled m s (Ok (Some x)) n t → suc (length n) ≤ length m
shorter_gave m s x n t p = let e : length m ≡ length p.passed + length (meets x ∷ n) = rw p.order (length-works p.passed (meets x ∷ n)) in omega (arith, e)

-- a branch has no leaf left
pub branch_ended : {A : Type 0} (i : List (Moment A)) (s : ℕ) (h v : List (Moment A)) (t : ℕ) (h' : List (Moment A)) (u : ℕ) → Advanced i s (h ++ v) t → Pulled h t (Ok None) h' u → Advanced i s (h' ++ v) u
branch_ended i s h v t h' u a p = rw p.ended (further i s (h ++ v) t v u a (front_advanced h v t [] u (came_to_end h t h' u p)))

-- no branch, no item and no sequence of items
pub nothing_left : {T A B : Type 0} (seen : T → A) (h : List (Moment B)) (o : Option T) (m : List (Moment A)) (f : A → List (Moment B)) → h ≡ [] → o ≡ None → m ≡ [] → h ++ bound (ready seen o ++ m) f ≡ []
nothing_left seen h o m f k l e = rw (k, l, e) refl

pub nothing_is : {A : Type 0} (o : Option A) → false ≡ is_some o → o ≡ None
nothing_is None e = refl
nothing_is (Some x) e = absurd (let bad : ⊥ = cc in bad)

-- the call for the item that is ready failed
pub large_call : {T A B : Type 0} (seen : T → A) (h : List (Moment B)) (o : Option T) (x : T) (m : List (Moment A)) (f : A → List (Moment B)) → h ≡ [] → o ≡ Some x → large_first (f (seen x)) ≡ true → large_first (h ++ bound (ready seen o ++ m) f) ≡ true
large_call seen h o x m f k l e = rw (k, l) (large-append (f (seen x)) (bound m f) e)

-- a bind that went on, met no leaf, and kept its function
pub record Going {A F : Type 0} (old : List (Moment A)) (start : ℕ) (now : List (Moment A)) (stop : ℕ) (f h : F) : Type 0 where
  pub advanced : Advanced old start now stop
  pub function : h ≡ f
