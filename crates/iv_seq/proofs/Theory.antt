-- How pulls on parts make a pull on a whole: for whoever writes a sequence of their own.
use Rattle.std.proofs.Common.{◌≡◌, ◌⊎◌, inl, inr, ℕ, zero, suc, ◌+◌, ◌≤◌, List, [], ◌∷◌, ◌++◌, Option, None, Some, Result, Ok, Err, true, refl, ap, sym, ◌∙◌, arith, length, append_assoc, IsErrAnd, IfOk, IsSomeAnd}
use Rattle.std.proofs.Math.Logic.{∥∥₁_map, ∥∥₁_elim, ∥∥₁_prop}
use Rattle.std.proofs.lemmas.List.{append-nil}
use Rattle.std.proofs.lemmas.List.Elements.{All-contains}
use Rattle.std.specs.List.{All, Contains}
use Rattle.iv_text.specs.declared.want.Want.{Want}
use Rattle.iv_text.specs.declared.want.Want.TheVariants.{Number}
use Rattle.iv_seq.specs.Moments.{Moment, Pass, begins, too_large, passes, meets, works, work_of, work_before, work_in, bound, leaves_in, large_first, has_large}
use Rattle.iv_seq.specs.Pull.{Pulled, Advanced, came, Ended, shown, Within, Fitting, FitsItem}

-- what a `?` hands on is the error that came
pub handed_on : {T : Type 0} (r : Result T Want) (w : Want) → IsErrAnd r (λ y. y ≡ w) → r ≡ Err w
handed_on (Ok x) w h = absurd h
handed_on (Err e) w h = ap (λ y. Err y) h

-- the answer of a call that failed
abbrev pub failing : (T : Type 0) → Want → Result T Want
failing T w = Err w

-- an error is the same, whatever would have come in its place
pub same_error : (T U : Type 0) (w v : Want) → failing U w ≡ failing U v → failing T w ≡ failing T v
same_error T U w v e = let f : w ≡ v = cc in ap (failing T) f

-- what was passed in front of a search stays in front of a longer one
pub works-append : {A : Type 0} (n : List Pass) (m v : List (Moment A)) → works n m ++ v ≡ works n (m ++ v)
works-append [] m v = refl
works-append (p ∷ n) m v = ap (λ w. passes p ∷ w) (works-append n m v)

pub works-works : {A : Type 0} (a b : List Pass) (m : List (Moment A)) → works a (works b m) ≡ works (a ++ b) m
works-works [] b m = refl
works-works (p ∷ a) b m = ap (λ w. passes p ∷ w) (works-works a b m)

pub work-join : (a b : List Pass) → work_of (a ++ b) ≡ work_of a + work_of b
work-join [] b = omega arith
work-join (begins ∷ a) b = omega (arith, work-join a b)
work-join (too_large ∷ a) b = work-join a b

pub cost-works : {A : Type 0} (n : List Pass) (m : List (Moment A)) → work_before (works n m) 1 ≡ work_of n + work_before m 1
cost-works [] m = omega arith
cost-works (begins ∷ n) m = omega (arith, cost-works n m)
cost-works (too_large ∷ n) m = cost-works n m

pub cost-append : {A : Type 0} (m v : List (Moment A)) → work_before m 1 ≤ work_before (m ++ v) 1
cost-append [] v = omega arith
cost-append (passes begins ∷ m) v = omega (arith, cost-append m v)
cost-append (passes too_large ∷ m) v = cost-append m v
cost-append (meets x ∷ m) v = omega arith

-- where a number is too large before the first leaf
pub large-works : {A : Type 0} (n : List Pass) (m : List (Moment A)) → large_first m ≡ true → large_first (works n m) ≡ true
large-works [] m h = h
large-works (begins ∷ n) m h = large-works n m h
large-works (too_large ∷ n) m h = refl

pub large-append : {A : Type 0} (m v : List (Moment A)) → large_first m ≡ true → large_first (m ++ v) ≡ true
large-append [] v h = absurd (let bad : ⊥ = cc in bad)
large-append (passes begins ∷ m) v h = large-append m v h
large-append (passes too_large ∷ m) v h = refl
large-append (meets x ∷ m) v h = h

-- nothing was done yet
pub begun : {A : Type 0} (m : List (Moment A)) (s : ℕ) → Advanced m s m s
begun m s = record { passed = []; order = refl; counts = omega arith; cost = omega arith }

-- where no leaf came, the search went on to its end
pub came_to_end : {A : Type 0} (m : List (Moment A)) (s : ℕ) (n : List (Moment A)) (t : ℕ) → Pulled m s (Ok None) n t → Advanced m s [] t
came_to_end {A = A} m s n t p =
    let e : m ≡ works p.passed [] = rw (← p.ended) p.order in
    let c : work_before m 1 ≡ work_of p.passed + work_before {A = A} [] 1 = rw e (cost-works p.passed []) in
    record { passed = p.passed; order = e; counts = p.counts; cost = omega (arith, p.cost, c) }

-- a search that went on goes on, without a leaf
pub further : {A : Type 0} (m : List (Moment A)) (s : ℕ) (n : List (Moment A)) (t : ℕ) (q : List (Moment A)) (u : ℕ) → Advanced m s n t → Advanced n t q u → Advanced m s q u
further m s n t q u a b = record {
  passed = a.passed ++ b.passed;
  order = rw (a.order, b.order) (works-works a.passed b.passed q);
  counts = omega (arith, a.counts, b.counts);
  cost = omega (arith, a.cost, b.cost, work-join a.passed b.passed);
}

-- and by a pull
pub then_pulled : {A : Type 0} (m : List (Moment A)) (s : ℕ) (n : List (Moment A)) (t : ℕ) (r : Result (Option A) Want) (q : List (Moment A)) (u : ℕ) → Advanced m s n t → Pulled n t r q u → Pulled m s r q u
then_pulled m s n t r q u a p =
    let c : work_before m 1 ≡ work_of a.passed + work_before n 1 = rw a.order (cost-works a.passed n) in
    record {
      passed = a.passed ++ p.passed;
      order = a.order ∙ (ap (works a.passed) p.order ∙ works-works a.passed p.passed (came r q));
      ended = p.ended;
      counts = omega (arith, a.counts, p.counts);
      cost = omega (arith, a.cost, p.cost, c);
      number = λ e. rw a.order (large-works a.passed n (p.number e));
    }

-- the search went on to its end, and no leaf came
pub then_ended : {A : Type 0} (m : List (Moment A)) (s u : ℕ) → Advanced m s [] u → Pulled m s (Ok None) [] u
then_ended {A = A} m s u a =
    let c : work_before m 1 ≡ work_of a.passed + work_before {A = A} [] 1 = rw a.order (cost-works a.passed []) in
    record {
      passed = a.passed;
      order = a.order;
      ended = refl;
      counts = a.counts;
      cost = omega (arith, a.cost, c);
      number = λ e. absurd (let bad : ⊥ = cc in bad);
    }

-- a search that met no leaf and then failed, or that came to its end
pub then_failed : {A : Type 0} (m : List (Moment A)) (s : ℕ) (e : Want) (n n' : List (Moment A)) (t : ℕ) → n' ≡ n → (e ≡ Number → large_first n ≡ true) → Advanced m s n t → Pulled m s (Err e) n' t
then_failed m s e n n' t k l a =
    let c : work_before m 1 ≡ work_of a.passed + work_before n 1 = rw a.order (cost-works a.passed n) in
    rw k (record {
      passed = a.passed;
      order = a.order;
      ended = tt;
      counts = a.counts;
      cost = omega (arith, a.cost, c);
      number = λ f. rw a.order (large-works a.passed n (l (let k : e ≡ Number = cc in k)));
    })

pub then_over : {A : Type 0} (m : List (Moment A)) (s : ℕ) (n n' : List (Moment A)) (t : ℕ) → n' ≡ n → n ≡ [] → Advanced m s n t → Pulled m s (Ok None) n' t
then_over m s n n' t k l a = rw (k, l) (then_ended m s t (rw l at a))

pub advanced_same : {A : Type 0} (m : List (Moment A)) (s : ℕ) (n n' : List (Moment A)) (t : ℕ) → n' ≡ n → Advanced m s n t → Advanced m s n' t
advanced_same m s n n' t e a = rw e a

-- a pull on a part that is in front
pub front_gave : {A : Type 0} (m v : List (Moment A)) (s : ℕ) (x : A) (n : List (Moment A)) (t : ℕ) → Pulled m s (Ok (Some x)) n t → Pulled (m ++ v) s (Ok (Some x)) (n ++ v) t
front_gave m v s x n t p = record {
  passed = p.passed;
  order = ap (λ w. w ++ v) p.order ∙ works-append p.passed (meets x ∷ n) v;
  ended = tt;
  counts = p.counts;
  cost = omega (arith, p.cost, cost-append m v);
  number = λ e. absurd (let bad : ⊥ = cc in bad);
}

pub front_failed : {A : Type 0} (m v : List (Moment A)) (s : ℕ) (e : Want) (n : List (Moment A)) (t : ℕ) → Pulled m s (Err e) n t → Pulled (m ++ v) s (Err e) (n ++ v) t
front_failed m v s e n t p = record {
  passed = p.passed;
  order = ap (λ w. w ++ v) p.order ∙ works-append p.passed n v;
  ended = tt;
  counts = p.counts;
  cost = omega (arith, p.cost, cost-append m v);
  number = λ f. large-append m v (p.number f);
}

pub front_advanced : {A : Type 0} (m v : List (Moment A)) (s : ℕ) (n : List (Moment A)) (t : ℕ) → Advanced m s n t → Advanced (m ++ v) s (n ++ v) t
front_advanced m v s n t a = record {
  passed = a.passed;
  order = ap (λ w. w ++ v) a.order ∙ works-append a.passed n v;
  counts = a.counts;
  cost = a.cost;
}

-- a part in front came to its end, and then the pull went on in what is after it
pub ended_then : {A : Type 0} (m v : List (Moment A)) (s : ℕ) (n : List (Moment A)) (t : ℕ) (r : Result (Option A) Want) (w : List (Moment A)) (u : ℕ) → Pulled m s (Ok None) n t → Pulled v t r w u → Pulled (m ++ v) s r (n ++ w) u
ended_then m v s n t r w u p q =
    let e : n ≡ [] = p.ended in
    rw e (then_pulled (m ++ v) s v t r w u (front_advanced m v s [] t (came_to_end m s n t p)) q)

-- a pull that passes nothing
pub pulled_at_once : {A : Type 0} (m : List (Moment A)) (s : ℕ) (r : Option A) (n : List (Moment A)) → m ≡ came (Ok r) n → Ended (Ok r) n → Pulled m s (Ok r) n s
pulled_at_once m s r n e d = record {
  passed = [];
  order = e;
  ended = d;
  counts = omega arith;
  cost = omega arith;
  number = λ f. absurd (let bad : ⊥ = cc in bad);
}

-- binds nest
pub bound-append : {A B : Type 0} (m v : List (Moment A)) (f : A → List (Moment B)) → bound (m ++ v) f ≡ bound m f ++ bound v f
bound-append [] v f = refl
bound-append (passes p ∷ m) v f = ap (λ w. passes p ∷ w) (bound-append m v f)
bound-append (meets x ∷ m) v f = ap (λ w. f x ++ w) (bound-append m v f) ∙ sym (append_assoc (f x) (bound m f) (bound v f))

pub bound-bound : {A B C : Type 0} (m : List (Moment A)) (f : A → List (Moment B)) (h : B → List (Moment C)) → bound (bound m f) h ≡ bound m (λ x. bound (f x) h)
bound-bound [] f h = refl
bound-bound (passes p ∷ m) f h = ap (λ w. passes p ∷ w) (bound-bound m f h)
bound-bound (meets x ∷ m) f h = bound-append (f x) (bound m f) h ∙ ap (λ w. bound (f x) h ++ w) (bound-bound m f h)

pub bound-one : {A B : Type 0} (x : A) (f : A → List (Moment B)) → bound (meets x ∷ []) f ≡ f x
bound-one x f = append-nil (f x)

pub bound-itself : {A : Type 0} (m : List (Moment A)) → bound m (λ x. meets x ∷ []) ≡ m
bound-itself [] = refl
bound-itself (passes p ∷ m) = ap (λ w. passes p ∷ w) (bound-itself m)
bound-itself (meets x ∷ m) = ap (λ w. meets x ∷ w) (bound-itself m)

-- functions that agree bind alike
pub bound-same : {A B : Type 0} (m : List (Moment A)) (f h : A → List (Moment B)) → ((x : A) → f x ≡ h x) → bound m f ≡ bound m h
bound-same [] f h e = refl
bound-same (passes p ∷ m) f h e = ap (λ w. passes p ∷ w) (bound-same m f h e)
bound-same (meets x ∷ m) f h e = rw (e x, bound-same m f h e) refl

pub bound-works : {A B : Type 0} (n : List Pass) (m : List (Moment A)) (f : A → List (Moment B)) → bound (works n m) f ≡ works n (bound m f)
bound-works [] m f = refl
bound-works (p ∷ n) m f = ap (λ w. passes p ∷ w) (bound-works n m f)

-- leaves
pub leaves-append : {A : Type 0} (m v : List (Moment A)) → leaves_in (m ++ v) ≡ leaves_in m ++ leaves_in v
leaves-append [] v = refl
leaves-append (passes p ∷ m) v = leaves-append m v
leaves-append (meets x ∷ m) v = ap (λ w. x ∷ w) (leaves-append m v)

pub leaves-works : {A : Type 0} (n : List Pass) (m : List (Moment A)) → leaves_in (works n m) ≡ leaves_in m
leaves-works [] m = refl
leaves-works (p ∷ n) m = leaves-works n m

-- a leaf that came was the first one
pub leaves_gave : {A : Type 0} (m : List (Moment A)) (s : ℕ) (x : A) (n : List (Moment A)) (t : ℕ) → Pulled m s (Ok (Some x)) n t → leaves_in m ≡ x ∷ leaves_in n
leaves_gave m s x n t p = ap leaves_in p.order ∙ leaves-works p.passed (meets x ∷ n)

pub leaves_ended : {A : Type 0} (m : List (Moment A)) (s : ℕ) (n : List (Moment A)) (t : ℕ) → Pulled m s (Ok None) n t → leaves_in m ≡ []
leaves_ended m s n t p = ap leaves_in p.order ∙ (leaves-works p.passed n ∙ ap leaves_in p.ended)

-- the item that comes from a search with a first leaf is seen as that leaf
pub first_leaf : {T A : Type 0} (seen : T → A) (m : List (Moment A)) (x : A) (xs : List A) (s : ℕ) (r : Result (Option T) Want) (n : List (Moment A)) (t : ℕ) → leaves_in m ≡ x ∷ xs → Pulled m s (shown seen r) n t → IfOk r (λ o. IsSomeAnd o (λ y. seen y ≡ x))
first_leaf seen m x xs s (Ok (Some y)) n t e p = let k : seen y ∷ leaves_in n ≡ x ∷ xs = sym (leaves_gave m s (seen y) n t p) ∙ e in cc
first_leaf seen m x xs s (Ok None) n t e p = absurd (let k : [] ≡ x ∷ xs = sym (leaves_ended m s n t p) ∙ e in let bad : ⊥ = cc in bad)
first_leaf seen m x xs s (Err w) n t e p = tt

-- what several pulls cost together
pub cost-first : {A : Type 0} (m : List (Moment A)) (k : ℕ) → work_before m 1 ≤ work_before m (suc k)
cost-first [] k = omega arith
cost-first (passes begins ∷ m) k = omega (arith, cost-first m k)
cost-first (passes too_large ∷ m) k = cost-first m k
cost-first (meets x ∷ m) k = let e : work_before m 0 ≡ 0 = refl in omega (arith, e)

cost-works-more : {A : Type 0} (n : List Pass) (m : List (Moment A)) (k : ℕ) → work_before (works n m) (suc k) ≡ work_of n + work_before m (suc k)
cost-works-more [] m k = omega arith
cost-works-more (begins ∷ n) m k = omega (arith, cost-works-more n m k)
cost-works-more (too_large ∷ n) m k = cost-works-more n m k

-- the first of two pulls
pub first_of_two : {A : Type 0} (m : List (Moment A)) (s : ℕ) (r : Result (Option A) Want) (n : List (Moment A)) (t : ℕ) → Pulled m s r n t → t ≤ s + work_before m 2
first_of_two m s r n t p = omega (arith, p.cost, cost-first m 1)

-- the second
pub second_of_two : {T A : Type 0} (seen : T → A) (m : List (Moment A)) (s : ℕ) (o : Option T) (n : List (Moment A)) (t : ℕ) (r : Result (Option A) Want) (q : List (Moment A)) (u : ℕ) → Pulled m s (shown seen (Ok o)) n t → Pulled n t r q u → u ≤ s + work_before m 2
second_of_two seen m s (Some y) n t r q u p k =
    let a : work_before m 1 ≡ work_of p.passed + work_before (meets (seen y) ∷ n) 1 = rw p.order (cost-works p.passed (meets (seen y) ∷ n)) in
    let b : work_before m 2 ≡ work_of p.passed + work_before (meets (seen y) ∷ n) 2 = rw p.order (cost-works-more p.passed (meets (seen y) ∷ n) 1) in
    let z : work_before n 0 ≡ 0 = refl in
    omega (arith, p.cost, k.cost, a, b, z)
second_of_two seen m s None n t r q u p k =
    let z : work_before n 1 ≡ 0 = rw p.ended refl in
    omega (arith, p.cost, k.cost, z, cost-first m 1)

-- tests of items
pub within-refl : {A : Type 0} (P : A → Type 0) → Within P P
within-refl P x h = h

pub within-trans : {A : Type 0} (P Q R : A → Type 0) → Within P Q → Within Q R → Within P R
within-trans P Q R f g x h = g x (f x h)

-- either of two facts
pub either_of : {P Q R S : Type 0} → (∥ P ∥₁ → ∥ R ∥₁) → (∥ Q ∥₁ → ∥ S ∥₁) → ∥ P ⊎ Q ∥₁ → ∥ R ⊎ S ∥₁
either_of f g h = ∥∥₁_elim h ∥∥₁_prop (λ s. elim s [ inl p ↦ ∥∥₁_map (f ∣ p ∣₁) inl | inr q ↦ ∥∥₁_map (g ∣ q ∣₁) inr ])

pub within-either : {A : Type 0} (P Q R S : A → Type 0) → Within P R → Within Q S → Within (λ x. P x ⊎ Q x) (λ x. R x ⊎ S x)
within-either P Q R S f g x = either_of (f x) (g x)

pub within-left : {A : Type 0} (P Q : A → Type 0) → Within P (λ x. P x ⊎ Q x)
within-left P Q x h = ∥∥₁_map h inl

pub within-right : {A : Type 0} (P Q : A → Type 0) → Within Q (λ x. P x ⊎ Q x)
within-right P Q x h = ∥∥₁_map h inr

pub fits_wider : {A : Type 0} (P Q : A → Type 0) (r : Result (Option A) Want) → Within P Q → FitsItem P r → FitsItem Q r
fits_wider P Q (Ok (Some x)) w h = w x h
fits_wider P Q (Ok None) w h = tt
fits_wider P Q (Err e) w h = tt

-- the pull was on the first of two parts
pub fitting_first : {A : Type 0} (P Q P' : A → Type 0) (r : Result (Option A) Want) → Fitting P r P' → Fitting (λ x. P x ⊎ Q x) r (λ x. P' x ⊎ Q x)
fitting_first P Q P' r f = record {
  item = fits_wider P (λ x. P x ⊎ Q x) r (within-left P Q) f.item;
  narrows = within-either P' Q P Q f.narrows (within-refl Q);
}

-- the pull was on both parts, and the second one's answer is the answer
pub fitting_second : {A : Type 0} (P Q P' Q' : A → Type 0) (r r' : Result (Option A) Want) → Fitting P r P' → Fitting Q r' Q' → Fitting (λ x. P x ⊎ Q x) r' (λ x. P' x ⊎ Q' x)
fitting_second P Q P' Q' r r' f g = record {
  item = fits_wider Q (λ x. P x ⊎ Q x) r' (within-right P Q) g.item;
  narrows = within-either P' Q' P Q f.narrows g.narrows;
}

-- what holds of each item of a list holds of each item that it gives
pub all_fit : {A : Type 0} (P : A → Type 0) (xs : List A) → All (λ x. ∥ P x ∥₁) xs → Within (Contains xs) P
all_fit P xs h x k = ∥∥₁_elim k ∥∥₁_prop (λ c. All-contains (λ y. ∥ P y ∥₁) xs x h c)
