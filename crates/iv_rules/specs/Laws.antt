-- What the laws say.
use Rattle.std.specs.Prelude.{◌≡◌, true, ◌↔◌}
use Rattle.iv_term.specs.declared.typ.Typ.{Typ}
use Rattle.iv_term.specs.declared.typ.Typ.TheBlock.{Nil as no_types}
use Rattle.iv_term.specs.declared.term.Term.{Term}
use Rattle.iv_term.specs.Typ.{prop, fun}
use Rattle.iv_term.specs.Term.{imp, same_term}
use Rattle.iv_hsub.specs.Typing.{HasType}
use Rattle.iv_rules.specs.declared.derivation.Derivation.{Derivation}
use Rattle.iv_rules.specs.Equality.{eq, all}
use Rattle.iv_rules.specs.Sequent.{Sequent, IsProp, IsSequent}
use Rattle.iv_rules.specs.Rules.{Concludes}

-- what a derivation concludes is a sequent
abbrev pub ConcludesSequents : Type 0
ConcludesSequents = (d : Derivation) (r : Sequent) → Concludes d r → IsSequent r

-- a derivation concludes one sequent at most
abbrev pub ConcludesOne : Type 0
ConcludesOne = (d : Derivation) (r u : Sequent) → Concludes d r → Concludes d u → r ≡ u

-- an implication is a proposition where its parts are, an equation where its sides are of its type, and `!!` where its
-- argument is a predicate
abbrev pub ImpIsProp : Type 0
ImpIsProp = (a b : Term) → IsProp (imp a b) ↔ (IsProp a × IsProp b)

abbrev pub EqIsProp : Type 0
EqIsProp = (a : Typ) (s t : Term) → IsProp (eq a s t) ↔ (HasType no_types a s × HasType no_types a t)

abbrev pub AllIsProp : Type 0
AllIsProp = (a : Typ) (f : Term) → IsProp (all a f) ↔ HasType no_types (fun a prop) f

-- the test of sameness, by which hypotheses are told apart, decides whether two terms are equal
abbrev pub SameIsEqual : Type 0
SameIsEqual = (t u : Term) → (same_term t u ≡ true) ↔ (t ≡ u)
