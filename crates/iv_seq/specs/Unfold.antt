-- A search that takes step after step from what it finds, as many as a number says.
use Rattle.std.specs.Prelude.{◌≡◌, ◌⊎◌, ℕ, zero, suc, ◌+◌, ◌-◌, List, [], ◌∷◌, ◌++◌, Option, None, Some, Result, Ok, Err, length}
use Rattle.iv_text.specs.declared.want.Want.{Want}
use Rattle.iv_seq.specs.declared.next.Next.{Next}
use Rattle.iv_seq.specs.declared.next.Next.TheVariants.{Done, On}
use Rattle.iv_seq.specs.Moments.{Moment, passes, meets, bound}
use Rattle.iv_seq.specs.Pull.{Pulled, Advanced, FitsItem, shown}

-- what is seen of what a step comes to
abbrev pub next_seen : {X Y A B : Type 0} → (X → A) → (Y → B) → Next X Y → Next A B
next_seen on done (Done y) = Done (done y)
next_seen on done (On x) = On (on x)

-- a result is a leaf, and from a place to go on the search goes on
abbrev pub opened : {X Y : Type 0} → (X → List (Moment Y)) → Next X Y → List (Moment Y)
opened go (Done y) = meets y ∷ []
opened go (On x) = go x

-- all that comes from x by at most n steps one after another
abbrev pub unfolded : {V X Y : Type 0} → (V → Next X Y) → (X → List (Moment V)) → ℕ → X → List (Moment Y)
unfolded shows f zero x = []
unfolded shows f (suc n) x = bound (f x) (λ v. opened (unfolded shows f n) (shows v))

-- what the steps that were begun still lead to: the last one comes first, and has one step less left than the one below it
abbrev pub stacked : {S V X Y : Type 0} → (S → List (Moment V)) → (V → Next X Y) → (X → List (Moment V)) → ℕ → List S → List (Moment Y)
stacked search shows f n [] = []
stacked search shows f zero (b ∷ bs) = []
stacked search shows f (suc n) (b ∷ bs) = stacked search shows f n bs ++ bound (search b) (λ v. opened (unfolded shows f n) (shows v))

-- what comes of the item that is ready
abbrev pub waiting : {T X Y : Type 0} → (T → X) → (X → List (Moment Y)) → Option T → List (Moment Y)
waiting seen go None = []
waiting seen go (Some x) = go (seen x)

-- the whole: of the item that is ready, and then of the steps that were begun
abbrev pub pending : {S T V X Y : Type 0} → (S → List (Moment V)) → (T → X) → (V → Next X Y) → (X → List (Moment V)) → ℕ → Option T → List S → List (Moment Y)
pending search seen shows f n item bs = waiting seen (unfolded shows f (n - length bs)) item ++ stacked search shows f n bs

-- one turn of such a search: it came to its end or to a leaf, it went on, or it failed
abbrev pub Turned : {T A : Type 0} → (T → A) → List (Moment A) → ℕ → Result (Next (Unit {0}) (Option T)) Want → List (Moment A) → ℕ → Type 0
Turned seen old start (Ok (Done answer)) new stop = Pulled old start (shown seen (Ok answer)) new stop
Turned seen old start (Ok (On u)) new stop = Advanced old start new stop
Turned seen old start (Err e) new stop = Pulled old start (Err e) new stop

-- the leaf that came fits
abbrev pub FitsTurn : {T : Type 0} → (T → Type 0) → Result (Next (Unit {0}) (Option T)) Want → Type 0
FitsTurn P (Ok (Done answer)) = FitsItem P (Ok answer)
FitsTurn P (Ok (On u)) = Unit {0}
FitsTurn P (Err e) = Unit {0}

-- how many turns it takes: one for each leaf that is met and for each end of a branch, and one to begin a branch
abbrev pub steps_of : {V : Type 0} → (V → ℕ) → List (Moment V) → ℕ
steps_of more [] = 1
steps_of more (passes p ∷ m) = steps_of more m
steps_of more (meets v ∷ m) = suc (more v + steps_of more m)

abbrev pub next_turns : {X Y : Type 0} → (X → ℕ) → Next X Y → ℕ
next_turns go (Done y) = 0
next_turns go (On x) = go x

abbrev pub turns : {V X Y : Type 0} → (V → Next X Y) → (X → List (Moment V)) → ℕ → X → ℕ
turns shows f zero x = 1
turns shows f (suc n) x = suc (steps_of (λ v. next_turns (turns shows f n) (shows v)) (f x))

abbrev pub stacked_turns : {S V X Y : Type 0} → (S → List (Moment V)) → (V → Next X Y) → (X → List (Moment V)) → ℕ → List S → ℕ
stacked_turns search shows f n [] = 0
stacked_turns search shows f zero (b ∷ bs) = 0
stacked_turns search shows f (suc n) (b ∷ bs) = stacked_turns search shows f n bs + steps_of (λ v. next_turns (turns shows f n) (shows v)) (search b)

abbrev pub waiting_turns : {T X : Type 0} → (T → X) → (X → ℕ) → Option T → ℕ
waiting_turns seen go None = 0
waiting_turns seen go (Some x) = go (seen x)

abbrev pub pending_turns : {S T V X Y : Type 0} → (S → List (Moment V)) → (T → X) → (V → Next X Y) → (X → List (Moment V)) → ℕ → Option T → List S → ℕ
pending_turns search seen shows f n item bs = waiting_turns seen (turns shows f (n - length bs)) item + stacked_turns search shows f n bs

-- some branch may give the item
abbrev pub FitsSome : {S N : Type 0} → (S → N → Type 0) → List S → N → Type 0
FitsSome fits [] v = ⊥
FitsSome fits (b ∷ bs) v = fits b v ⊎ FitsSome fits bs v

-- what a step may lead to and goes on is taken by the next step
abbrev pub GoesOn : {N X Y : Type 0} → (N → Next X Y) → (N → Type 0) → (X → Type 0) → Type 0
GoesOn {N} {X} becomes leads takes = (v : N) (x : X) → becomes v ≡ On x → ∥ leads v ∥₁ → ∥ takes x ∥₁

-- the results of what a step may lead to
abbrev pub EndsIn : {N X Y : Type 0} → (N → Next X Y) → (N → Type 0) → Y → Type 0
EndsIn {N} becomes leads y = (v : N) × ((becomes v ≡ Done y) × leads v)
