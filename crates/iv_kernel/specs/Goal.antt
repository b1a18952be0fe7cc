-- Goals (Wenzel 2002; Paulson 1986): subgoals that are left, a claim, and the theorem that leads from them to it.
use Rattle.std.specs.Prelude.{◌≡◌, ℕ, zero, suc, List, [], ◌∷◌, ◌++◌}
use Rattle.std.specs.List.{AllByRecursion}
use Rattle.iv_term.specs.declared.term.Term.{Term}
use Rattle.iv_term.specs.Term.{imp, antecedent, consequent}
use Rattle.iv_hsub.specs.Hhf.{hhf}
use Rattle.iv_rules.specs.Rules.{Proved}

-- S1 ==> .. ==> Sn ==> C
unfoldable pub goal_prop : List Term → Term → Term
goal_prop [] c = c
goal_prop (s ∷ ss) c = imp s (goal_prop ss c)

-- the first n premises of a proposition
unfoldable pub premises_of : ℕ → Term → List Term
premises_of zero p = []
premises_of (suc n) p = antecedent p ∷ premises_of n (consequent p)

-- a proposition is that of a goal with n subgoals and this claim
abbrev pub IsGoalProp : ℕ → Term → Term → Type 0
IsGoalProp n p claim = p ≡ goal_prop (premises_of n p) claim

-- a term has each !! in front of ==>, and so has each of some
abbrev pub IsInForm : Term → Type 0
IsInForm t = hhf t ≡ t

abbrev pub AreInForm : List Term → Type 0
AreInForm ts = AllByRecursion IsInForm ts

-- and its subgoals are in this form
abbrev pub IsGoal : ℕ → Term → Term → Type 0
IsGoal n p claim = IsGoalProp n p claim × AreInForm (premises_of n p)

-- what a goal is
pub record OpenGoal : Type 0 where
  pub subgoals : List Term
  pub claim : Term
  pub thm : Proved
