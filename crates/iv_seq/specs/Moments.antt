-- What a search does, moment by moment: a search tree read from left to right.
use Rattle.std.specs.Prelude.{ℕ, zero, suc, Bool, true, false, if◌then◌else◌, List, [], ◌∷◌, ◌++◌, Option, None, Some}
use Rattle.iv_seq.specs.SearchTree.{SearchTree, none, one, join, work, large}

-- a piece of counted work begins, or a number would be too large here
pub data Pass : Type 0 where
  begins : Pass
  too_large : Pass

-- a search passes something that is no leaf, or meets a leaf
pub data Moment (A : Type 0) : Type 0 where
  passes : Pass → Moment A
  meets : A → Moment A

-- the moments of a tree
abbrev pub moments_of : {A : Type 0} → SearchTree A → List (Moment A)
moments_of none = []
moments_of (one x) = meets x ∷ []
moments_of (join t u) = moments_of t ++ moments_of u
moments_of (work t) = passes begins ∷ moments_of t
moments_of large = passes too_large ∷ []

-- what is seen of the items, as leaves one after another, with no work
abbrev pub listed : {T A : Type 0} → (T → A) → List T → List (Moment A)
listed seen [] = []
listed seen (x ∷ xs) = meets (seen x) ∷ listed seen xs

-- the leaves
abbrev pub leaves_in : {A : Type 0} → List (Moment A) → List A
leaves_in [] = []
leaves_in (passes p ∷ m) = leaves_in m
leaves_in (meets x ∷ m) = x ∷ leaves_in m

-- whether a leaf is met
abbrev pub meets_any : {A : Type 0} → List (Moment A) → Bool
meets_any [] = false
meets_any (passes p ∷ m) = meets_any m
meets_any (meets x ∷ m) = true

-- whether a number is too large before the first leaf, or at all where there is none
abbrev pub large_first : {A : Type 0} → List (Moment A) → Bool
large_first [] = false
large_first (passes begins ∷ m) = large_first m
large_first (passes too_large ∷ m) = true
large_first (meets x ∷ m) = false

-- whether a number is too large anywhere
abbrev pub has_large : {A : Type 0} → List (Moment A) → Bool
has_large [] = false
has_large (passes begins ∷ m) = has_large m
has_large (passes too_large ∷ m) = true
has_large (meets x ∷ m) = has_large m

-- how much work begins before the k-th leaf (from 1), or in all where there are fewer leaves
abbrev pub work_before : {A : Type 0} → List (Moment A) → ℕ → ℕ
work_before m zero = 0
work_before [] (suc k) = 0
work_before (passes begins ∷ m) (suc k) = suc (work_before m (suc k))
work_before (passes too_large ∷ m) (suc k) = work_before m (suc k)
work_before (meets x ∷ m) (suc k) = work_before m k

-- all work
abbrev pub work_in : {A : Type 0} → List (Moment A) → ℕ
work_in [] = 0
work_in (passes begins ∷ m) = suc (work_in m)
work_in (passes too_large ∷ m) = work_in m
work_in (meets x ∷ m) = work_in m

-- the search f x in the place of each leaf x
abbrev pub bound : {A B : Type 0} → List (Moment A) → (A → List (Moment B)) → List (Moment B)
bound [] f = []
bound (passes p ∷ m) f = passes p ∷ bound m f
bound (meets x ∷ m) f = f x ++ bound m f

-- the first search where it meets a leaf, else both
abbrev pub either : {A : Type 0} → List (Moment A) → List (Moment A) → List (Moment A)
either m v = if meets_any m then m else m ++ v

-- what is passed before the first leaf
abbrev pub lead_in : {A : Type 0} → List (Moment A) → List (Moment A)
lead_in [] = []
lead_in (passes p ∷ m) = passes p ∷ lead_in m
lead_in (meets x ∷ m) = []

-- up to the n-th leaf, and nothing where n is 0
abbrev pub within : {A : Type 0} → ℕ → List (Moment A) → List (Moment A)
within zero m = []
within (suc n) [] = []
within (suc n) (passes p ∷ m) = passes p ∷ within (suc n) m
within (suc n) (meets x ∷ m) = meets x ∷ within n m

-- cut after the n-th leaf; for 0, what is passed before the first leaf
abbrev pub cut : {A : Type 0} → ℕ → List (Moment A) → List (Moment A)
cut zero m = lead_in m
cut (suc n) m = within (suc n) m

-- what is left after the first leaf
abbrev pub after : {A : Type 0} → List (Moment A) → List (Moment A)
after [] = []
after (passes p ∷ m) = after m
after (meets x ∷ m) = m

-- what was passed, and then a search
abbrev pub works : {A : Type 0} → List Pass → List (Moment A) → List (Moment A)
works [] m = m
works (p ∷ ps) m = passes p ∷ works ps m

-- how much of what was passed is work
abbrev pub work_of : List Pass → ℕ
work_of [] = 0
work_of (begins ∷ ps) = suc (work_of ps)
work_of (too_large ∷ ps) = work_of ps

-- a leaf that may be held ready
abbrev pub ready : {T A : Type 0} → (T → A) → Option T → List (Moment A)
ready seen None = []
ready seen (Some x) = meets (seen x) ∷ []

-- the search of a sequence that may be there
abbrev pub held : {S A : Type 0} → (S → List (Moment A)) → Option S → List (Moment A)
held search None = []
held search (Some s) = search s

-- what a bind still has to do: the branch at hand, and then the branches of the items to come
abbrev pub branching : {S T A B : Type 0} → (S → List (Moment B)) → (T → A) → (A → List (Moment B)) → Option S → Option T → List (Moment A) → List (Moment B)
branching search seen means branch item m = held search branch ++ bound (ready seen item ++ m) means
