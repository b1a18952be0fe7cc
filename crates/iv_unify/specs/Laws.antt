-- What the laws of unifiers say.
use Rattle.std.specs.Prelude.{◌≡◌, ℕ, ◌≤◌, List, [], ◌∷◌, Some, None}
use Rattle.iv_term.specs.declared.typ.Types.{Types}
use Rattle.iv_term.specs.declared.term.Term.{Term}
use Rattle.iv_hsub.specs.Typing.{type_of, IsTerm}
use Rattle.iv_subst.specs.TySubst.{TyMap, put_typ, at}
use Rattle.iv_hsub.specs.Inst.{Vars}
use Rattle.iv_put.specs.Subst.{Substitution, values, Values, applied}
use Rattle.iv_seq.specs.SearchTree.{SearchTree, none, one, join, work, large}
use Rattle.iv_unify.specs.declared.pair.Pair.{Pair}
use Rattle.iv_unify.specs.Scope.{Scope, Over, Leads}
use Rattle.iv_unify.specs.Simplify.{simplify, total}
use Rattle.iv_unify.specs.Values.{assigned}
use Rattle.iv_unify.specs.Unifiers.{unifiers_of}

-- both sides of a pair are terms over a scope
pub record IsOver (G : Scope) (p : Pair) : Type 0 where
  pub left_term : IsTerm p.bounds p.left
  pub right_term : IsTerm p.bounds p.right
  pub left_over : Over G p.left
  pub right_over : Over G p.right

unfoldable pub AreOver : Scope → List Pair → Type 0
AreOver G [] = Unit {0}
AreOver G (p ∷ ps) = IsOver G p × AreOver G ps

-- a substitution makes both sides equal
abbrev pub IsAlike : Substitution → Pair → Type 0
IsAlike s p = applied s p.left ≡ applied s p.right

unfoldable pub AreAlike : Substitution → List Pair → Type 0
AreAlike s [] = Unit {0}
AreAlike s (p ∷ ps) = IsAlike s p × AreAlike s ps

-- what holds of each leaf
unfoldable pub EachLeaf : (Substitution → Type 0) → SearchTree Substitution → Type 0
EachLeaf P none = Unit {0}
EachLeaf P (one s) = P s
EachLeaf P (join t u) = EachLeaf P t × EachLeaf P u
EachLeaf P (work t) = EachLeaf P t
EachLeaf P large = Unit {0}

-- a leaf makes both sides of every pair equal, and leads from the pairs' scope to another
abbrev pub IsUnifier : Scope → List Pair → Substitution → Type 0
IsUnifier G ps s = AreAlike s ps × ((D : Scope) × Leads s G D)

-- each leaf is a unifier of pairs in which each schematic variable has a number below the first new one, and one type
abbrev pub LeavesUnify : Type 0
LeavesUnify = (G : Scope) (depth : ℕ) (ps : List Pair) → AreOver G ps → EachLeaf (IsUnifier G ps) (unifiers_of depth G.below ps)

-- the types of both sides of each pair are equal under a substitution
unfoldable pub HaveTypesAlike : Substitution → List Pair → Type 0
HaveTypesAlike s [] = Unit {0}
HaveTypesAlike s (p ∷ ps) = (put_typ (at s.0) (type_of p.bounds p.left) ≡ put_typ (at s.0) (type_of p.bounds p.right)) × HaveTypesAlike s ps

-- what makes the sides equal makes their types equal
abbrev pub UnifiersUnifyTypes : Type 0
UnifiersUnifyTypes = (G : Scope) (ps : List Pair) (s : Substitution) → AreOver G ps → IsUnifier G ps s → HaveTypesAlike s ps

-- a variable that is assigned at no cost stands in no value of the assignment
abbrev pub AssignedIsAbsent : Type 0
AssignedIsAbsent = (bounds : Types) (left right : Term) (e : Substitution) → assigned bounds left right ≡ Some e → Values (Vars (λ h a. values e h ≡ None)) e.1

-- simplification ends: any number of turns from the pairs' size on gives the same
abbrev pub TurnsAreEnough : Type 0
TurnsAreEnough = (n m : ℕ) (s : TyMap) (ps : List Pair) → total ps ≤ n → total ps ≤ m → simplify n s ps ≡ simplify m s ps
