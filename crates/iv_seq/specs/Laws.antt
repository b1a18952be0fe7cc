-- What the laws say: a tree and its moments are two readings of one search, searches that are bound nest, and a pull
-- gives the first leaf.
use Rattle.std.specs.Prelude.{◌≡◌, ℕ, ◌+◌, ◌-◌, ◌≤◌, ◌<◌, length, true, List, [], ◌∷◌, ◌++◌, Option, None, Some, Result, Ok, Err}
use Rattle.std.specs.List.{flat_map}
use Rattle.iv_text.specs.declared.want.Want.{Want}
use Rattle.iv_text.specs.declared.want.Want.TheVariants.{Number}
use Rattle.iv_seq.specs.SearchTree.{SearchTree, leaves, has_leaf, starts_large, before, bind, or_else, take, rest}
use Rattle.iv_seq.specs.Moments.{Moment, meets, moments_of, leaves_in, large_first, work_before, work_in, bound, either, cut, after}
use Rattle.iv_seq.specs.Pull.{Pulled, Advanced}

-- leaves and work of a tree are those of its moments
abbrev pub ReadsLeaves : (A : Type 0) → Type 0
ReadsLeaves A = (t : SearchTree A) → leaves_in (moments_of t) ≡ leaves t

abbrev pub ReadsLarge : (A : Type 0) → Type 0
ReadsLarge A = (t : SearchTree A) → large_first (moments_of t) ≡ starts_large t

abbrev pub ReadsWork : (A : Type 0) → Type 0
ReadsWork A = (t : SearchTree A) (k : ℕ) → work_before (moments_of t) k ≡ before t k

-- and all work comes before a leaf that isn't there
abbrev pub ReadsAllWork : (A : Type 0) → Type 0
ReadsAllWork A = (t : SearchTree A) (k : ℕ) → length (leaves t) < k → before t k ≡ work_in (moments_of t)

-- to build a tree is to build its moments
abbrev pub ReadsBind : (A B : Type 0) → Type 0
ReadsBind A B = (t : SearchTree A) (f : A → SearchTree B) → moments_of (bind t f) ≡ bound (moments_of t) (λ x. moments_of (f x))

abbrev pub ReadsOrElse : (A : Type 0) → Type 0
ReadsOrElse A = (t u : SearchTree A) → moments_of (or_else t u) ≡ either (moments_of t) (moments_of u)

abbrev pub ReadsTake : (A : Type 0) → Type 0
ReadsTake A = (n : ℕ) (t : SearchTree A) → moments_of (take n t) ≡ cut n (moments_of t)

abbrev pub ReadsRest : (A : Type 0) → Type 0
ReadsRest A = (t : SearchTree A) → moments_of (rest t) ≡ after (moments_of t)

-- each list of moments is that of a tree
abbrev pub ReadsAll : (A : Type 0) → Type 0
ReadsAll A = (m : List (Moment A)) → (t : SearchTree A) × (moments_of t ≡ m)

-- a bind goes over what is joined, and over a bind
abbrev pub BindsJoined : (A B : Type 0) → Type 0
BindsJoined A B = (m v : List (Moment A)) (f : A → List (Moment B)) → bound (m ++ v) f ≡ bound m f ++ bound v f

abbrev pub BindsBound : (A B C : Type 0) → Type 0
BindsBound A B C = (m : List (Moment A)) (f : A → List (Moment B)) (h : B → List (Moment C)) → bound (bound m f) h ≡ bound m (λ x. bound (f x) h)

-- a bind of one leaf is what it leads to, and one that leads each leaf to itself changes nothing
abbrev pub BindsOne : (A B : Type 0) → Type 0
BindsOne A B = (x : A) (f : A → List (Moment B)) → bound (meets x ∷ []) f ≡ f x

abbrev pub BindsToItself : (A : Type 0) → Type 0
BindsToItself A = (m : List (Moment A)) → bound m (λ x. meets x ∷ []) ≡ m

-- the leaves of what is joined, and of a bind
abbrev pub LeavesJoined : (A : Type 0) → Type 0
LeavesJoined A = (m v : List (Moment A)) → leaves_in (m ++ v) ≡ leaves_in m ++ leaves_in v

abbrev pub LeavesBound : (A B : Type 0) → Type 0
LeavesBound A B = (m : List (Moment A)) (f : A → List (Moment B)) → leaves_in (bound m f) ≡ flat_map (λ x. leaves_in (f x)) (leaves_in m)

-- a search that went on goes on: without a leaf, and by a pull
abbrev pub GoesFurther : (A : Type 0) → Type 0
GoesFurther A = (m : List (Moment A)) (s : ℕ) (n : List (Moment A)) (t : ℕ) (q : List (Moment A)) (u : ℕ) → Advanced m s n t → Advanced n t q u → Advanced m s q u

abbrev pub PullsFurther : (A : Type 0) → Type 0
PullsFurther A = (m : List (Moment A)) (s : ℕ) (n : List (Moment A)) (t : ℕ) (r : Result (Option A) Want) (q : List (Moment A)) (u : ℕ) → Advanced m s n t → Pulled n t r q u → Pulled m s r q u

-- what is left costs what the whole cost, less the work before the first leaf
abbrev pub RestCosts : (A : Type 0) → Type 0
RestCosts A = (t : SearchTree A) (k : ℕ) → has_leaf t ≡ true → before (rest t) k ≡ before t (k + 1) - before t 1

-- what a pull on a sequence that stands for a tree says
pub record PullSays {A : Type 0} (t : SearchTree A) (start : ℕ) (result : Result (Option A) Want) (new : List (Moment A)) (stop : ℕ) : Type 0 where
  -- a leaf that comes is the first, and the sequence stands for the rest
  pub first : (x : A) → result ≡ Ok (Some x) → (leaves t ≡ x ∷ leaves (rest t)) × (new ≡ moments_of (rest t))
  -- no leaf comes exactly where there is none
  pub none : result ≡ Ok None → (leaves t ≡ []) × (new ≡ [])
  pub no_leaf : leaves t ≡ [] → (o : Option A) → result ≡ Ok o → o ≡ None
  -- after an error the leaves are the same, and the work before none of them has grown
  pub kept : (e : Want) → result ≡ Err e → leaves_in new ≡ leaves t
  pub no_dearer : (e : Want) → result ≡ Err e → (k : ℕ) → work_before new k ≤ before t k
  -- Number comes only where a number is too large before the first leaf
  pub number : result ≡ Err Number → starts_large t ≡ true
  -- no more was done than the first leaf needs
  pub cost : stop ≤ start + before t 1

abbrev pub PullsTree : (A : Type 0) → Type 0
PullsTree A = (t : SearchTree A) (start : ℕ) (result : Result (Option A) Want) (new : List (Moment A)) (stop : ℕ) → Pulled (moments_of t) start result new stop → PullSays t start result new stop
