-- What one pull on a lazy sequence does: to its search, and to its test of items.
use Rattle.std.specs.Prelude.{◌≡◌, ℕ, ◌+◌, ◌≤◌, true, List, [], ◌∷◌, Option, None, Some, Result, Ok, Err}
use Rattle.iv_text.specs.declared.want.Want.{Want}
use Rattle.iv_text.specs.declared.want.Want.TheVariants.{Number}
use Rattle.iv_seq.specs.Moments.{Moment, Pass, meets, works, work_of, work_before, large_first}

-- what is seen of an answer
abbrev pub shown : {T A : Type 0} → (T → A) → Result (Option T) Want → Result (Option A) Want
shown seen (Ok (Some x)) = Ok (Some (seen x))
shown seen (Ok None) = Ok None
shown seen (Err e) = Err e

-- the leaf that came out, and the search that is left
abbrev pub came : {A : Type 0} → Result (Option A) Want → List (Moment A) → List (Moment A)
came (Ok (Some x)) left = meets x ∷ left
came (Ok None) left = left
came (Err e) left = left

-- no leaf comes only where nothing is left
abbrev pub Ended : {A : Type 0} → Result (Option A) Want → List (Moment A) → Type 0
Ended (Ok (Some x)) left = Unit {0}
Ended (Ok None) left = left ≡ []
Ended (Err e) left = Unit {0}

-- a pull goes past what is no leaf, with at most as many ticks as there is work before the first leaf; Number comes
-- only where a number is too large before the first leaf
pub record Pulled {A : Type 0} (old : List (Moment A)) (start : ℕ) (result : Result (Option A) Want) (new : List (Moment A)) (stop : ℕ) : Type 0 where
  pub passed : List Pass
  pub order : old ≡ works passed (came result new)
  pub ended : Ended result new
  pub counts : start ≤ stop
  pub cost : stop ≤ start + work_before old 1
  pub number : result ≡ Err Number → large_first old ≡ true

-- a search goes past what is no leaf, and meets none, with at most as many ticks as it passes work
pub record Advanced {A : Type 0} (old : List (Moment A)) (start : ℕ) (new : List (Moment A)) (stop : ℕ) : Type 0 where
  pub passed : List Pass
  pub order : old ≡ works passed new
  pub counts : start ≤ stop
  pub cost : stop ≤ start + work_of passed

-- what meets the first test meets the second
abbrev pub Within : {A : Type 0} → (A → Type 0) → (A → Type 0) → Type 0
Within {A} P Q = (x : A) → ∥ P x ∥₁ → ∥ Q x ∥₁

-- two tests of the same items
abbrev pub Same : {A : Type 0} → (A → Type 0) → (A → Type 0) → Type 0
Same P Q = Within P Q × Within Q P

-- the item that came out meets the test
abbrev pub FitsItem : {A : Type 0} → (A → Type 0) → Result (Option A) Want → Type 0
FitsItem P (Ok (Some x)) = ∥ P x ∥₁
FitsItem P (Ok None) = Unit {0}
FitsItem P (Err e) = Unit {0}

-- the item that came out meets the test, and so does all that meets the new one
pub record Fitting {A : Type 0} (old : A → Type 0) (result : Result (Option A) Want) (new : A → Type 0) : Type 0 where
  pub item : FitsItem old result
  pub narrows : Within new old

-- a part of a pull that gives no leaf: the search went on, or it failed
abbrev pub Moved : {A : Type 0} → List (Moment A) → ℕ → Result (Unit {0}) Want → List (Moment A) → ℕ → Type 0
Moved old start (Ok u) new stop = Advanced old start new stop
Moved old start (Err e) new stop = Pulled old start (Err e) new stop
