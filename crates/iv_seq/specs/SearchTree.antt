-- Search trees (of this project): what a lazy sequence stands for.
use Rattle.std.specs.Prelude.{ℕ, zero, suc, ◌+◌, ◌-◌, Bool, true, false, ◌||◌, if◌then◌else◌, List, [], ◌∷◌, ◌++◌, length}

-- nothing, a leaf, one tree before another, a piece of counted work and the tree that it finds, or a place at which
-- a number would be too large
pub data SearchTree (A : Type 0) : Type 0 where
  none : SearchTree A
  one : A → SearchTree A
  join : SearchTree A → SearchTree A → SearchTree A
  work : SearchTree A → SearchTree A
  large : SearchTree A

-- the trees, one after another
abbrev pub joined : {A : Type 0} → List (SearchTree A) → SearchTree A
joined [] = none
joined (t ∷ ts) = join t (joined ts)

-- the leaves from left to right
abbrev pub leaves : {A : Type 0} → SearchTree A → List A
leaves none = []
leaves (one x) = x ∷ []
leaves (join t u) = leaves t ++ leaves u
leaves (work t) = leaves t
leaves large = []

-- whether there is a leaf
abbrev pub has_leaf : {A : Type 0} → SearchTree A → Bool
has_leaf none = false
has_leaf (one x) = true
has_leaf (join t u) = has_leaf t || has_leaf u
has_leaf (work t) = has_leaf t
has_leaf large = false

-- whether a number is too large before the first leaf, or at all where there is none
abbrev pub starts_large : {A : Type 0} → SearchTree A → Bool
starts_large none = false
starts_large (one x) = false
starts_large (join t u) = if has_leaf t then starts_large t else starts_large t || starts_large u
starts_large (work t) = starts_large t
starts_large large = true

-- how much work begins before the k-th leaf (from 1), or in all where there are fewer leaves
abbrev pub before : {A : Type 0} → SearchTree A → ℕ → ℕ
before none k = 0
before (one x) k = 0
before (join t u) k = before t k + before u (k - length (leaves t))
before (work t) zero = 0
before (work t) (suc k) = suc (before t (suc k))
before large k = 0

-- the tree f x in the place of each leaf x
abbrev pub bind : {A B : Type 0} → SearchTree A → (A → SearchTree B) → SearchTree B
bind none f = none
bind (one x) f = f x
bind (join t u) f = join (bind t f) (bind u f)
bind (work t) f = work (bind t f)
bind large f = large

-- the first tree where it has a leaf, else both
abbrev pub or_else : {A : Type 0} → SearchTree A → SearchTree A → SearchTree A
or_else t u = if has_leaf t then t else join t u

-- what stands before the first leaf
abbrev pub lead : {A : Type 0} → SearchTree A → SearchTree A
lead none = none
lead (one x) = none
lead (join t u) = if has_leaf t then lead t else join t (lead u)
lead (work t) = work (lead t)
lead large = large

-- the tree up to its n-th leaf, and nothing where n is 0
abbrev pub up_to : {A : Type 0} → ℕ → SearchTree A → SearchTree A
up_to zero t = none
up_to (suc n) none = none
up_to (suc n) (one x) = one x
up_to (suc n) (join t u) = join (up_to (suc n) t) (up_to (suc n - length (leaves t)) u)
up_to (suc n) (work t) = work (up_to (suc n) t)
up_to (suc n) large = large

-- the tree cut after its n-th leaf; for 0, what stands before the first leaf
abbrev pub take : {A : Type 0} → ℕ → SearchTree A → SearchTree A
take zero t = lead t
take (suc n) t = up_to (suc n) t

-- what is left after the first leaf
abbrev pub rest : {A : Type 0} → SearchTree A → SearchTree A
rest none = none
rest (one x) = none
rest (join t u) = if has_leaf t then join (rest t) u else rest u
rest (work t) = rest t
rest large = none
