-- Lists of subgoals in another order (of this project).
use Rattle.std.specs.Prelude.{◌≡◌, ℕ, zero, suc, ◌⊎◌, List, [], ◌∷◌}
use Rattle.iv_term.specs.declared.term.Term.{Term}
use Rattle.iv_term.specs.declared.term.Terms.{Terms}
use Rattle.iv_term.specs.declared.term.Term.TheBlock.{Nil}
use Rattle.iv_term.specs.Term.{tm_cons}

-- the list without the item at a place, and with one more there; the first place is 0
unfoldable pub removed : ℕ → List Term → List Term
removed k [] = []
removed zero (x ∷ xs) = xs
removed (suc k) (x ∷ xs) = x ∷ removed k xs

unfoldable pub inserted : ℕ → Term → List Term → List Term
inserted zero x ys = x ∷ ys
inserted (suc k) x [] = x ∷ []
inserted (suc k) x (y ∷ ys) = y ∷ inserted k x ys

-- terms as a list
unfoldable pub listed : Terms → List Term
listed Nil = []
listed (tm_cons t ts) = t ∷ listed ts

-- a term is in a list, and so is each of some terms
abbrev pub IsIn : Term → List Term → Type 0
IsIn x [] = ⊥
IsIn x (y ∷ ys) = (x ≡ y) ⊎ IsIn x ys

abbrev pub AreIn : Terms → List Term → Type 0
AreIn Nil ys = Unit {0}
AreIn (tm_cons t ts) ys = IsIn t ys × AreIn ts ys
