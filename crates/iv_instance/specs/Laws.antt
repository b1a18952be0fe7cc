-- What the laws say.
use Rattle.std.specs.Prelude.{◌≡◌}
use Rattle.std.specs.List.{IsDistinct}
use Rattle.std.specs.Map.{keys_of}
use Rattle.iv_text.specs.Name.{same_name}
use Rattle.iv_term.specs.declared.typ.Typ.{Typ}
use Rattle.iv_term.specs.declared.typ.Typ.TheBlock.{Schematic as Variable}
use Rattle.iv_term.specs.declared.term.Head.{Head}
use Rattle.iv_term.specs.declared.term.Head.TheVariants.{Schematic}
use Rattle.iv_term.specs.declared.term.Term.{Term}
use Rattle.iv_term.specs.declared.term.Terms.{Terms}
use Rattle.iv_term.specs.Hyps.{IsDistinctTerms}
use Rattle.iv_hsub.specs.Inst.{AllVars}
use Rattle.iv_put.specs.Subst.{Substitution, applied, CanApply, AreClosed}
use Rattle.iv_put.specs.Putting.{AllTermTypeVars}
use Rattle.iv_rules.specs.Sequent.{AreProps}
use Rattle.iv_rules.specs.Instance.{instanced, instanced_hyps, AreKeysApart, AreValuesTyped, IsFreshFor}
use Rattle.iv_instance.specs.Converted.{as_instance}

-- where a substitution can be applied to a term, so that each occurrence of a name has the type of its value, the instance
-- leaves what the substitution leaves
abbrev pub InstanceIsApplied : Type 0
InstanceIsApplied = (s : Substitution) (t : Term) → CanApply s t → instanced (as_instance s) t ≡ applied s t

-- its values have their keys' types, and its keys differ
abbrev pub InstanceIsTyped : Type 0
InstanceIsTyped = (s : Substitution) → AreClosed s.1 → AreValuesTyped (as_instance s)

abbrev pub InstanceIsApart : Type 0
InstanceIsApart = (s : Substitution) → IsDistinct same_name (keys_of s.0) → IsDistinct same_name (keys_of s.1) → AreKeysApart (as_instance s)

-- a type variable that is fixed, and a variable that is free
abbrev pub IsFixedType : Typ → Type 0
IsFixedType (Variable x) = ⊥
IsFixedType a = Unit {0}

abbrev pub IsFreeHead : Head → Type 0
IsFreeHead (Schematic x a) = ⊥
IsFreeHead h = Unit {0}

-- hypotheses without schematic variables and schematic type variables
pub record AreFixed (hs : Terms) : Type 0 where
  pub types : AllTermTypeVars IsFixedType hs
  pub terms : AllVars (λ h a. IsFreeHead h) hs

-- nothing of them is replaced, so they stay
abbrev pub FixedAreFresh : Type 0
FixedAreFresh = (s : Substitution) (hs : Terms) → AreFixed hs → IsFreshFor (as_instance s) hs

abbrev pub FixedStay : Type 0
FixedStay = (s : Substitution) (hs : Terms) → AreProps hs → IsDistinctTerms hs → AreFixed hs → instanced_hyps (as_instance s) hs ≡ hs
