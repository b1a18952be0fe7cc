-- Turns of a search that takes step after step.
use Rattle.std.proofs.Common.{◌≡◌, inl, inr, ℕ, zero, suc, ◌+◌, ◌-◌, ◌<◌, ◌≤◌, List, [], ◌∷◌, ◌++◌, Option, None, Some, Result, Ok, Err, true, refl, ap, sym, ◌∙◌, arith, length, append_assoc, option_to_list}
use Rattle.std.proofs.Math.Logic.{∥∥₁_map, ∥∥₁_elim, ∥∥₁_prop}
use Rattle.std.proofs.lemmas.List.{append-nil, length-append}
use Rattle.iv_text.specs.declared.want.Want.{Want}
use Rattle.iv_text.specs.declared.want.Want.TheVariants.{Number}
use Rattle.iv_seq.specs.declared.next.Next.{Next}
use Rattle.iv_seq.specs.declared.next.Next.TheVariants.{Done, On}
use Rattle.iv_seq.specs.Moments.{Moment, Pass, begins, too_large, passes, meets, works, work_of, work_before, bound, large_first}
use Rattle.iv_seq.specs.Pull.{Pulled, Advanced, Within, FitsItem}
use Rattle.iv_seq.specs.Unfold.{opened, unfolded, stacked, waiting, pending, steps_of, next_turns, turns, stacked_turns, waiting_turns, pending_turns, Turned, FitsSome, GoesOn, EndsIn}
use Rattle.iv_seq.proofs.Theory.{begun, then_failed, then_ended, front_gave, front_failed, front_advanced, came_to_end, cost-works, bound-works, large-append}
use Rattle.iv_seq.proofs.Binds.{cost-bound, large-bound, bound_went, bound_stopped}

-- the same pull, on equal searches
pulled_by : {A : Type 0} (m m' : List (Moment A)) (s : ℕ) (r : Result (Option A) Want) (n n' : List (Moment A)) (t : ℕ) → m ≡ m' → n ≡ n' → Pulled m' s r n' t → Pulled m s r n t
pulled_by m m' s r n n' t e d p = rw (e, d) p

advanced_by : {A : Type 0} (m m' : List (Moment A)) (s : ℕ) (n n' : List (Moment A)) (t : ℕ) → m ≡ m' → n ≡ n' → Advanced m' s n' t → Advanced m s n t
advanced_by m m' s n n' t e d a = rw (e, d) a

-- a leaf that is a result, and one that is gone on from
branch_done : {V Y : Type 0} (m : List (Moment V)) (K : V → List (Moment Y)) (s : ℕ) (v : V) (y : Y) (n : List (Moment V)) (t : ℕ) → K v ≡ meets y ∷ [] → Pulled m s (Ok (Some v)) n t → Pulled (bound m K) s (Ok (Some y)) (bound n K) t
branch_done m K s v y n t e p = record {
  passed = p.passed;
  order = ap (λ w. bound w K) p.order ∙ (bound-works p.passed (meets v ∷ n) K ∙ ap (λ w. works p.passed (w ++ bound n K)) e);
  ended = tt;
  counts = p.counts;
  cost = omega (arith, p.cost, cost-bound m K);
  number = λ f. absurd (let bad : ⊥ = cc in bad);
}

branch_on : {V Y : Type 0} (m : List (Moment V)) (K : V → List (Moment Y)) (s : ℕ) (v : V) (w : List (Moment Y)) (n : List (Moment V)) (t : ℕ) → K v ≡ w → Pulled m s (Ok (Some v)) n t → Advanced (bound m K) s (w ++ bound n K) t
branch_on m K s v w n t e p =
    let c : work_before m 1 ≡ work_of p.passed + work_before (meets v ∷ n) 1 = rw p.order (cost-works p.passed (meets v ∷ n)) in
    let z : work_before n 0 ≡ 0 = refl in
    record {
      passed = p.passed;
      order = ap (λ q. bound q K) p.order ∙ (bound-works p.passed (meets v ∷ n) K ∙ ap (λ q. works p.passed (q ++ bound n K)) e);
      counts = p.counts;
      cost = omega (arith, p.cost, c, z);
    }

-- where a leaf of a branch leads, and in how many turns
abbrev goes : {V X Y : Type 0} → (V → Next X Y) → (X → List (Moment V)) → ℕ → V → List (Moment Y)
goes shows f k v = opened (unfolded shows f k) (shows v)

abbrev counts : {V X Y : Type 0} → (V → Next X Y) → (X → List (Moment V)) → ℕ → V → ℕ
counts shows f k v = next_turns (turns shows f k) (shows v)

-- a branch on top
pub stacked-push : {S V X Y : Type 0} (search : S → List (Moment V)) (shows : V → Next X Y) (f : X → List (Moment V)) (n k : ℕ) (bs : List S) (b : S) → n ≡ suc (length bs + k) → stacked search shows f n (bs ++ b ∷ []) ≡ bound (search b) (goes shows f k) ++ stacked search shows f n bs
stacked-push search shows f zero k bs b h = absurd (omega (arith, h))
stacked-push search shows f (suc n) k [] b h = let e : n ≡ k = omega (arith, h) in rw e (sym (append-nil (bound (search b) (goes shows f k))))
stacked-push search shows f (suc n) k (c ∷ bs) b h =
    let d : n ≡ suc (length bs + k) = omega (arith, h) in
    ap (λ w. w ++ bound (search c) (goes shows f n)) (stacked-push search shows f n k bs b d)
    ∙ append_assoc (bound (search b) (goes shows f k)) (stacked search shows f n bs) (bound (search c) (goes shows f n))

pub turns-push : {S V X Y : Type 0} (search : S → List (Moment V)) (shows : V → Next X Y) (f : X → List (Moment V)) (n k : ℕ) (bs : List S) (b : S) → n ≡ suc (length bs + k) → stacked_turns search shows f n (bs ++ b ∷ []) ≡ steps_of (counts shows f k) (search b) + stacked_turns search shows f n bs
turns-push search shows f zero k bs b h = absurd (omega (arith, h))
turns-push search shows f (suc n) k [] b h = let e : n ≡ k = omega (arith, h) in rw e (omega arith)
turns-push search shows f (suc n) k (c ∷ bs) b h =
    let d : n ≡ suc (length bs + k) = omega (arith, h) in
    omega (arith, turns-push search shows f n k bs b d)

-- how many steps the branch on top has left
top : (n l : ℕ) → l < n → n ≡ suc (l + (n - suc l))
top n l h = omega (arith, h)

steps-works : {V : Type 0} (more : V → ℕ) (ps : List Pass) (m : List (Moment V)) → steps_of more (works ps m) ≡ steps_of more m
steps-works more [] m = refl
steps-works more (p ∷ ps) m = steps-works more ps m

-- nothing but the first item yet
pub first_pending : {S T V X Y : Type 0} (search : S → List (Moment V)) (seen : T → X) (shows : V → Next X Y) (f : X → List (Moment V)) (n : ℕ) (x : T) (bs : List S) → bs ≡ [] → pending search seen shows f n (Some x) bs ≡ unfolded shows f n (seen x)
first_pending search seen shows f n x bs h =
    let e : n - 0 ≡ n = omega arith in
    rw h (append-nil (unfolded shows f (n - 0) (seen x)) ∙ ap (λ l. unfolded shows f l (seen x)) e)

-- the item goes where no step is left
pub none_left : {S T V X Y : Type 0} (search : S → List (Moment V)) (seen : T → X) (shows : V → Next X Y) (f : X → List (Moment V)) (n : ℕ) (o : Option T) (x : T) (bs : List S) → o ≡ Some x → length bs ≡ n → pending search seen shows f n None bs ≡ pending search seen shows f n o bs
none_left search seen shows f n o x bs k h =
    let e : n - length bs ≡ 0 = omega (arith, h) in
    let u : unfolded shows f (n - length bs) (seen x) ≡ [] = ap (λ l. unfolded shows f l (seen x)) e in
    rw k (ap (λ w. w ++ stacked search shows f n bs) (sym u))

-- the item's branch began
begun_by : {S T V X Y : Type 0} (search : S → List (Moment V)) (seen : T → X) (shows : V → Next X Y) (f : X → List (Moment V)) (n k : ℕ) (o : Option T) (x : T) (bs bs' : List S) (b : S) → o ≡ Some x → bs' ≡ bs ++ b ∷ [] → n ≡ suc (length bs + k) → search b ≡ f (seen x) → pending search seen shows f n None bs' ≡ pending search seen shows f n o bs
begun_by search seen shows f n k o x bs bs' b ho hb h e =
    let d : n - length bs ≡ suc k = omega (arith, h) in
    let u : unfolded shows f (n - length bs) (seen x) ≡ bound (f (seen x)) (goes shows f k) = ap (λ l. unfolded shows f l (seen x)) d in
    let l : bound (search b) (goes shows f k) ≡ bound (f (seen x)) (goes shows f k) = ap (λ m. bound m (goes shows f k)) e in
    rw (ho, hb) (stacked-push search shows f n k bs b h ∙ ap (λ w. w ++ stacked search shows f n bs) (l ∙ sym u))

pub branch_begun : {S T V X Y : Type 0} (search : S → List (Moment V)) (seen : T → X) (shows : V → Next X Y) (f : X → List (Moment V)) (n : ℕ) (o : Option T) (x : T) (bs bs' : List S) (b : S) → o ≡ Some x → bs' ≡ bs ++ b ∷ [] → length bs < n → search b ≡ f (seen x) → pending search seen shows f n None bs' ≡ pending search seen shows f n o bs
branch_begun search seen shows f n o x bs bs' b ho hb h e = begun_by search seen shows f n (n - suc (length bs)) o x bs bs' b ho hb (top n (length bs) h) e

turns_by : {S T V X Y : Type 0} (search : S → List (Moment V)) (seen : T → X) (shows : V → Next X Y) (f : X → List (Moment V)) (n k : ℕ) (x : T) (bs : List S) (b : S) → n ≡ suc (length bs + k) → search b ≡ f (seen x) → stacked_turns search shows f n (bs ++ b ∷ []) ≤ turns shows f (n - length bs) (seen x) + stacked_turns search shows f n bs
turns_by search seen shows f n k x bs b h e =
    let d : n - length bs ≡ suc k = omega (arith, h) in
    let u : turns shows f (n - length bs) (seen x) ≡ suc (steps_of (counts shows f k) (f (seen x))) = ap (λ l. turns shows f l (seen x)) d in
    let l : steps_of (counts shows f k) (search b) ≡ steps_of (counts shows f k) (f (seen x)) = ap (steps_of (counts shows f k)) e in
    omega (arith, turns-push search shows f n k bs b h, u, l)

pub turns_begun : {S T V X Y : Type 0} (search : S → List (Moment V)) (seen : T → X) (shows : V → Next X Y) (f : X → List (Moment V)) (n : ℕ) (o : Option T) (x : T) (bs bs' : List S) (b : S) → o ≡ Some x → bs' ≡ bs ++ b ∷ [] → length bs < n → search b ≡ f (seen x) → pending_turns search seen shows f n None bs' ≤ pending_turns search seen shows f n o bs
turns_begun search seen shows f n o x bs bs' b ho hb h e =
    let q : stacked_turns search shows f n (bs ++ b ∷ []) ≤ turns shows f (n - length bs) (seen x) + stacked_turns search shows f n bs = turns_by search seen shows f n (n - suc (length bs)) x bs b (top n (length bs) h) e in
    rw (ho, hb) (omega (arith, q))

-- the call for it failed
large_by : {S T V X Y : Type 0} (search : S → List (Moment V)) (seen : T → X) (shows : V → Next X Y) (f : X → List (Moment V)) (n k : ℕ) (x : T) (bs : List S) → n ≡ suc (length bs + k) → large_first (f (seen x)) ≡ true → large_first (pending search seen shows f n (Some x) bs) ≡ true
large_by search seen shows f n k x bs h e =
    let d : n - length bs ≡ suc k = omega (arith, h) in
    large-append (unfolded shows f (n - length bs) (seen x)) (stacked search shows f n bs)
    (ap (λ l. large_first (unfolded shows f l (seen x))) d ∙ large-bound (f (seen x)) (goes shows f k) e)

pub large_begun : {S T V X Y : Type 0} (search : S → List (Moment V)) (seen : T → X) (shows : V → Next X Y) (f : X → List (Moment V)) (n : ℕ) (o : Option T) (x : T) (bs : List S) → o ≡ Some x → length bs < n → large_first (f (seen x)) ≡ true → large_first (pending search seen shows f n o bs) ≡ true
large_begun search seen shows f n o x bs ho h e = rw ho (large_by search seen shows f n (n - suc (length bs)) x bs (top n (length bs) h) e)

-- the branch on top was asked, and put back unless it was at its end
put_back : {S T V X Y : Type 0} (search : S → List (Moment V)) (seen : T → X) (shows : V → Next X Y) (f : X → List (Moment V)) (n k : ℕ) (o : Option T) (bs bs' : List S) (b : S) → o ≡ None → bs' ≡ bs ++ b ∷ [] → n ≡ suc (length bs + k) → pending search seen shows f n o bs' ≡ bound (search b) (goes shows f k) ++ stacked search shows f n bs
put_back search seen shows f n k o bs bs' b ho hb h = rw (ho, hb) (stacked-push search shows f n k bs b h)

pub ask_ended : {S T V X Y : Type 0} (search : S → List (Moment V)) (seen : T → X) (shows : V → Next X Y) (f : X → List (Moment V)) (n : ℕ) (o : Option T) (bs : List S) (b : S) (s : ℕ) (m : List (Moment V)) (t : ℕ) → o ≡ None → length bs < n → Pulled (search b) s (Ok None) m t → Advanced (stacked search shows f n (bs ++ b ∷ [])) s (pending search seen shows f n o bs) t
ask_ended search seen shows f n o bs b s m t ho h p =
    advanced_by (stacked search shows f n (bs ++ b ∷ [])) (bound (search b) (goes shows f (n - suc (length bs))) ++ stacked search shows f n bs) s (pending search seen shows f n o bs) (stacked search shows f n bs) t
    (stacked-push search shows f n (n - suc (length bs)) bs b (top n (length bs) h)) (rw ho refl)
    (front_advanced (bound (search b) (goes shows f (n - suc (length bs)))) (stacked search shows f n bs) s [] t (bound_went (search b) (goes shows f (n - suc (length bs))) s [] t (came_to_end (search b) s m t p)))

pub ask_failed : {S T V X Y : Type 0} (search : S → List (Moment V)) (seen : T → X) (shows : V → Next X Y) (f : X → List (Moment V)) (n : ℕ) (o : Option T) (bs bs' : List S) (b b' : S) (s : ℕ) (e : Want) (t : ℕ) → o ≡ None → bs' ≡ bs ++ b' ∷ [] → length bs < n → Pulled (search b) s (Err e) (search b') t → Pulled (stacked search shows f n (bs ++ b ∷ [])) s (Err e) (pending search seen shows f n o bs') t
ask_failed search seen shows f n o bs bs' b b' s e t ho hb h p =
    let k : ℕ = n - suc (length bs) in
    pulled_by (stacked search shows f n (bs ++ b ∷ [])) (bound (search b) (goes shows f (n - suc (length bs))) ++ stacked search shows f n bs) s (Err e) (pending search seen shows f n o bs') (bound (search b') (goes shows f (n - suc (length bs))) ++ stacked search shows f n bs) t
    (stacked-push search shows f n k bs b (top n (length bs) h)) (put_back search seen shows f n k o bs bs' b' ho hb (top n (length bs) h))
    (front_failed (bound (search b) (goes shows f (n - suc (length bs)))) (stacked search shows f n bs) s e (bound (search b') (goes shows f (n - suc (length bs)))) t (bound_stopped (search b) (goes shows f (n - suc (length bs))) s e (search b') t p))

pub ask_done : {S T V X Y : Type 0} (search : S → List (Moment V)) (seen : T → X) (shows : V → Next X Y) (f : X → List (Moment V)) (n : ℕ) (o : Option T) (bs bs' : List S) (b b' : S) (s : ℕ) (v : V) (y : Y) (t : ℕ) → o ≡ None → bs' ≡ bs ++ b' ∷ [] → length bs < n → Done y ≡ shows v → Pulled (search b) s (Ok (Some v)) (search b') t → Pulled (stacked search shows f n (bs ++ b ∷ [])) s (Ok (Some y)) (pending search seen shows f n o bs') t
ask_done search seen shows f n o bs bs' b b' s v y t ho hb h e p =
    let k : ℕ = n - suc (length bs) in
    pulled_by (stacked search shows f n (bs ++ b ∷ [])) (bound (search b) (goes shows f (n - suc (length bs))) ++ stacked search shows f n bs) s (Ok (Some y)) (pending search seen shows f n o bs') (bound (search b') (goes shows f (n - suc (length bs))) ++ stacked search shows f n bs) t
    (stacked-push search shows f n k bs b (top n (length bs) h)) (put_back search seen shows f n k o bs bs' b' ho hb (top n (length bs) h))
    (front_gave (bound (search b) (goes shows f (n - suc (length bs)))) (stacked search shows f n bs) s y (bound (search b') (goes shows f (n - suc (length bs)))) t
    (branch_done (search b) (goes shows f (n - suc (length bs))) s v y (search b') t (ap (opened (unfolded shows f k)) (sym e)) p))

-- the next item has as many steps left as the branch it came from
on_by : {S T V X Y : Type 0} (search : S → List (Moment V)) (seen : T → X) (shows : V → Next X Y) (f : X → List (Moment V)) (n k : ℕ) (x : T) (bs bs' : List S) (b : S) → bs' ≡ bs ++ b ∷ [] → n ≡ suc (length bs + k) → pending search seen shows f n (Some x) bs' ≡ (unfolded shows f k (seen x) ++ bound (search b) (goes shows f k)) ++ stacked search shows f n bs
on_by search seen shows f n k x bs bs' b hb h =
    let d : n - length (bs ++ b ∷ []) ≡ k = omega (arith, h, length-append bs (b ∷ [])) in
    let u : unfolded shows f (n - length (bs ++ b ∷ [])) (seen x) ≡ unfolded shows f k (seen x) = ap (λ l. unfolded shows f l (seen x)) d in
    rw hb (ap (λ w. w ++ stacked search shows f n (bs ++ b ∷ [])) u
    ∙ (ap (λ w. unfolded shows f k (seen x) ++ w) (stacked-push search shows f n k bs b h)
    ∙ sym (append_assoc (unfolded shows f k (seen x)) (bound (search b) (goes shows f k)) (stacked search shows f n bs))))

pub ask_on : {S T V X Y : Type 0} (search : S → List (Moment V)) (seen : T → X) (shows : V → Next X Y) (f : X → List (Moment V)) (n : ℕ) (o : Option T) (x : T) (bs bs' : List S) (b b' : S) (s : ℕ) (v : V) (t : ℕ) → o ≡ Some x → bs' ≡ bs ++ b' ∷ [] → length bs < n → On (seen x) ≡ shows v → Pulled (search b) s (Ok (Some v)) (search b') t → Advanced (stacked search shows f n (bs ++ b ∷ [])) s (pending search seen shows f n o bs') t
ask_on search seen shows f n o x bs bs' b b' s v t ho hb h e p =
    let k : ℕ = n - suc (length bs) in
    advanced_by (stacked search shows f n (bs ++ b ∷ [])) (bound (search b) (goes shows f (n - suc (length bs))) ++ stacked search shows f n bs) s (pending search seen shows f n o bs') ((unfolded shows f k (seen x) ++ bound (search b') (goes shows f (n - suc (length bs)))) ++ stacked search shows f n bs) t
    (stacked-push search shows f n k bs b (top n (length bs) h)) (rw ho (on_by search seen shows f n k x bs bs' b' hb (top n (length bs) h)))
    (front_advanced (bound (search b) (goes shows f (n - suc (length bs)))) (stacked search shows f n bs) s (unfolded shows f k (seen x) ++ bound (search b') (goes shows f (n - suc (length bs)))) t
    (branch_on (search b) (goes shows f (n - suc (length bs))) s v (unfolded shows f k (seen x)) (search b') t (ap (opened (unfolded shows f k)) (sym e)) p))

-- and there are fewer turns to come
pub turns_ended : {S T V X Y : Type 0} (search : S → List (Moment V)) (seen : T → X) (shows : V → Next X Y) (f : X → List (Moment V)) (n : ℕ) (o : Option T) (bs : List S) (b : S) (s : ℕ) (m : List (Moment V)) (t : ℕ) → o ≡ None → length bs < n → Pulled (search b) s (Ok None) m t → pending_turns search seen shows f n o bs < stacked_turns search shows f n (bs ++ b ∷ [])
turns_ended search seen shows f n o bs b s m t ho h p =
    let e : search b ≡ works p.passed [] = rw (← p.ended) p.order in
    let q : steps_of (counts shows f (n - suc (length bs))) (search b) ≡ 1 = ap (steps_of (counts shows f (n - suc (length bs)))) e ∙ steps-works (counts shows f (n - suc (length bs))) p.passed [] in
    rw ho (omega (arith, q, turns-push search shows f n (n - suc (length bs)) bs b (top n (length bs) h)))

turns_on_by : {S T V X Y : Type 0} (search : S → List (Moment V)) (seen : T → X) (shows : V → Next X Y) (f : X → List (Moment V)) (n k : ℕ) (x : T) (bs : List S) (b b' : S) (s : ℕ) (v : V) (t : ℕ) → n ≡ suc (length bs + k) → On (seen x) ≡ shows v → Pulled (search b) s (Ok (Some v)) (search b') t → turns shows f (n - length (bs ++ b' ∷ [])) (seen x) + stacked_turns search shows f n (bs ++ b' ∷ []) < stacked_turns search shows f n (bs ++ b ∷ [])
turns_on_by search seen shows f n k x bs b b' s v t h e p =
    let d : n - length (bs ++ b' ∷ []) ≡ k = omega (arith, h, length-append bs (b' ∷ [])) in
    let u : turns shows f (n - length (bs ++ b' ∷ [])) (seen x) ≡ turns shows f k (seen x) = ap (λ l. turns shows f l (seen x)) d in
    let q : steps_of (counts shows f k) (search b) ≡ suc ((counts shows f k) v + steps_of (counts shows f k) (search b')) = ap (steps_of (counts shows f k)) p.order ∙ steps-works (counts shows f k) p.passed (meets v ∷ search b') in
    let r : (counts shows f k) v ≡ turns shows f k (seen x) = ap (next_turns (turns shows f k)) (sym e) in
    omega (arith, u, q, r, turns-push search shows f n k bs b h, turns-push search shows f n k bs b' h)

pub turns_on : {S T V X Y : Type 0} (search : S → List (Moment V)) (seen : T → X) (shows : V → Next X Y) (f : X → List (Moment V)) (n : ℕ) (o : Option T) (x : T) (bs bs' : List S) (b b' : S) (s : ℕ) (v : V) (t : ℕ) → o ≡ Some x → bs' ≡ bs ++ b' ∷ [] → length bs < n → On (seen x) ≡ shows v → Pulled (search b) s (Ok (Some v)) (search b') t → pending_turns search seen shows f n o bs' < stacked_turns search shows f n (bs ++ b ∷ [])
turns_on search seen shows f n o x bs bs' b b' s v t ho hb h e p =
    rw (ho, hb) (turns_on_by search seen shows f n (n - suc (length bs)) x bs b b' s v t (top n (length bs) h) e p)

pub turns_done : {S T V X Y : Type 0} (search : S → List (Moment V)) (seen : T → X) (shows : V → Next X Y) (f : X → List (Moment V)) (n : ℕ) (o : Option T) (bs bs' : List S) (b b' : S) (s : ℕ) (v : V) (t : ℕ) → o ≡ None → bs' ≡ bs ++ b' ∷ [] → length bs < n → Pulled (search b) s (Ok (Some v)) (search b') t → pending_turns search seen shows f n o bs' < stacked_turns search shows f n (bs ++ b ∷ [])
turns_done search seen shows f n o bs bs' b b' s v t ho hb h p =
    let k : ℕ = n - suc (length bs) in
    let q : steps_of (counts shows f (n - suc (length bs))) (search b) ≡ suc ((counts shows f (n - suc (length bs))) v + steps_of (counts shows f (n - suc (length bs))) (search b')) = ap (steps_of (counts shows f (n - suc (length bs)))) p.order ∙ steps-works (counts shows f (n - suc (length bs))) p.passed (meets v ∷ search b') in
    rw (ho, hb) (omega (arith, q, turns-push search shows f n k bs b (top n (length bs) h), turns-push search shows f n k bs b' (top n (length bs) h)))

-- a turn
pub turn_over : {S T V X Y : Type 0} (search : S → List (Moment V)) (seen : T → X) (shows : V → Next X Y) (f : X → List (Moment V)) (n : ℕ) (o : Option T) (bs bs' : List S) (m : List (Moment Y)) (s : ℕ) → pending search seen shows f n o bs ≡ m → o ≡ None → bs ≡ [] → bs' ≡ [] → Pulled m s (Ok None) (pending search seen shows f n o bs') s
turn_over search seen shows f n o bs bs' m s e ho hb hd =
    let l : pending search seen shows f n o bs ≡ [] = rw (ho, hb) refl in
    pulled_by m [] s (Ok None) (pending search seen shows f n o bs') [] s (sym e ∙ l) (rw (ho, hd) refl) (then_ended [] s s (begun [] s))

pub turn_failed : {A : Type 0} (m : List (Moment A)) (s : ℕ) (e : Want) (n : List (Moment A)) → n ≡ m → (e ≡ Number → large_first m ≡ true) → Pulled m s (Err e) n s
turn_failed m s e n k l = then_failed m s e m n s k l (begun m s)

pub turned_by : {T A : Type 0} (seen : T → A) (m m' : List (Moment A)) (s : ℕ) (r : Result (Next (Unit {0}) (Option T)) Want) (n : List (Moment A)) (t : ℕ) → m ≡ m' → Turned seen m' s r n t → Turned seen m s r n t
turned_by seen m m' s r n t e p = rw e p

-- tests of items
pub led_push : {S N : Type 0} (fits : S → N → Type 0) (P : N → Type 0) (bs : List S) (b : S) → Within (FitsSome fits bs) P → Within (fits b) P → Within (FitsSome fits (bs ++ b ∷ [])) P
led_push fits P [] b h k v q = ∥∥₁_elim q ∥∥₁_prop (λ s. elim s [ inl p ↦ k v ∣ p ∣₁ | inr z ↦ absurd z ])
led_push fits P (c ∷ bs) b h k v q = ∥∥₁_elim q ∥∥₁_prop (λ s. elim s [
  | inl p ↦ h v ∣ inl p ∣₁
  | inr z ↦ led_push fits P bs b (λ w r. h w (∥∥₁_map r inr)) k v ∣ z ∣₁
])

pub led_below : {S N : Type 0} (fits : S → N → Type 0) (P : N → Type 0) (bs : List S) (b : S) → Within (FitsSome fits (bs ++ b ∷ [])) P → Within (FitsSome fits bs) P
led_below fits P [] b h v q = ∥∥₁_elim q ∥∥₁_prop (λ z. absurd z)
led_below fits P (c ∷ bs) b h v q = ∥∥₁_elim q ∥∥₁_prop (λ s. elim s [
  | inl p ↦ h v ∣ inl p ∣₁
  | inr z ↦ led_below fits P bs b (λ w r. h w (∥∥₁_map r inr)) v ∣ z ∣₁
])

pub led_top : {S N : Type 0} (fits : S → N → Type 0) (P : N → Type 0) (bs : List S) (b : S) → Within (FitsSome fits (bs ++ b ∷ [])) P → Within (fits b) P
led_top fits P [] b h v q = h v (∥∥₁_map q inl)
led_top fits P (c ∷ bs) b h v q = led_top fits P bs b (λ w r. h w (∥∥₁_map r inr)) v q

pub led_pushed : {S N : Type 0} (fits : S → N → Type 0) (P : N → Type 0) (bs bs' : List S) (b : S) → bs' ≡ bs ++ b ∷ [] → Within (FitsSome fits bs) P → Within (fits b) P → Within (FitsSome fits bs') P
led_pushed fits P bs bs' b e h k = rw e (led_push fits P bs b h k)

pub led_popped : {S N : Type 0} (fits : S → N → Type 0) (P : N → Type 0) (bs bs' : List S) (r : Option S) → bs ≡ bs' ++ option_to_list r → Within (FitsSome fits bs) P → Within (FitsSome fits bs') P
led_popped fits P bs bs' None e h = rw (e ∙ append-nil bs') at h
led_popped fits P bs bs' (Some b) e h = led_below fits P bs' b (rw e at h)

pub led_last : {S N : Type 0} (fits : S → N → Type 0) (P : N → Type 0) (bs bs' : List S) (b : S) → bs ≡ bs' ++ b ∷ [] → Within (FitsSome fits bs) P → Within (fits b) P
led_last fits P bs bs' b e h = led_top fits P bs' b (rw e at h)

pub fewer_popped : {S : Type 0} (bs bs' : List S) (r : Option S) (n : ℕ) → bs ≡ bs' ++ option_to_list r → length bs ≤ n → length bs' ≤ n
fewer_popped bs bs' r n e h = let l : length bs ≡ length bs' + length (option_to_list r) = ap length e ∙ length-append bs' (option_to_list r) in omega (arith, l, h)

pub more_pushed : {S : Type 0} (bs bs' : List S) (b : S) (n : ℕ) → bs' ≡ bs ++ b ∷ [] → length bs < n → length bs' ≤ n
more_pushed bs bs' b n e h = let l : length bs' ≡ length bs + length (b ∷ []) = ap length e ∙ length-append bs (b ∷ []) in omega (arith, l, h)

pub taken_on : {X : Type 0} (P : X → Type 0) (y : X) → ∥ P y ∥₁ → (x : X) → Some y ≡ Some x → ∥ P x ∥₁
taken_on P y h x e = let q : y ≡ x = cc in rw q at h

pub ends_in : {N X Y : Type 0} (becomes : N → Next X Y) (P Q : N → Type 0) (v : N) (y : Y) → becomes v ≡ Done y → Within P Q → ∥ P v ∥₁ → ∥ EndsIn becomes Q y ∥₁
ends_in becomes P Q v y e w h = ∥∥₁_map (w v h) (λ q. (v, (e, q)))
