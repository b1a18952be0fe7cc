-- Each rule as a step: where its premises are concluded and its condition holds, so is its conclusion.
use Rattle.std.specs.Prelude.{ℕ, List}
use Rattle.iv_text.specs.declared.name.Name.{Name}
use Rattle.iv_term.specs.declared.typ.Typ.{Typ}
use Rattle.iv_term.specs.declared.term.Term.{Term}
use Rattle.iv_term.specs.declared.term.Terms.{Terms}
use Rattle.iv_rules.specs.declared.instance.Instance.{Instance}
use Rattle.iv_rules.specs.declared.derivation.Derivation.{Derivation}
use Rattle.iv_rules.specs.declared.derivation.Derivation.TheBlock.{Axiom, Assume, Refl}
use Rattle.iv_rules.specs.Derivation.{imp_intr, imp_elim, all_intr, all_elim, eq_sym, eq_trans, comb, abs, eq_intr, eq_elim, conv, inst}
use Rattle.iv_rules.specs.Equality.{IsEquation}
use Rattle.iv_rules.specs.Instance.{instanced, instanced_hyps, AreKeysApart, AreValuesTyped}
use Rattle.iv_rules.specs.Sequent.{sequent, IsClosed, IsProp, AreProps}
use Rattle.iv_rules.specs.Conditions.{CanImpElim, CanAllIntr, CanAllElim, CanTrans, CanComb, CanAbs, CanEqIntr, CanEqElim, CanConv, CanInst}
use Rattle.iv_rules.specs.Conclusions.{by_axiom, by_assume, by_imp_intr, by_imp_elim, by_all_intr, by_all_elim, by_refl, by_sym, by_trans, by_comb, by_abs, by_eq_intr, by_eq_elim, by_conv, by_inst}
use Rattle.iv_rules.specs.Rules.{Concludes, Shows}

abbrev pub AxiomShows : Type 0
AxiomShows = (n : List ℕ) (a : Term) → IsProp a → Concludes (Axiom n a) (by_axiom a)

abbrev pub AssumeShows : Type 0
AssumeShows = (a : Term) → IsProp a → Concludes (Assume a) (by_assume a)

abbrev pub ImpIntrShows : Type 0
ImpIntrShows = (a : Term) (d : Derivation) (hs : Terms) (p : Term) → IsProp a → Shows d hs p → Concludes (imp_intr a d) (by_imp_intr a (sequent hs p))

abbrev pub ImpElimShows : Type 0
ImpElimShows = (d e : Derivation) (hs ks : Terms) (p q : Term) → CanImpElim p q → Shows d hs p → Shows e ks q
    → Concludes (imp_elim d e) (by_imp_elim (sequent hs p) (sequent ks q))

abbrev pub AllIntrShows : Type 0
AllIntrShows = (x : Name) (a : Typ) (d : Derivation) (hs : Terms) (p : Term) → CanAllIntr x hs → Shows d hs p
    → Concludes (all_intr x a d) (by_all_intr x a (sequent hs p))

abbrev pub AllElimShows : Type 0
AllElimShows = (v : Term) (d : Derivation) (hs : Terms) (p : Term) → CanAllElim v p → Shows d hs p → Concludes (all_elim v d) (by_all_elim v (sequent hs p))

abbrev pub ReflShows : Type 0
ReflShows = (v : Term) → IsClosed v → Concludes (Refl v) (by_refl v)

abbrev pub SymShows : Type 0
SymShows = (d : Derivation) (hs : Terms) (p : Term) → IsEquation p → Shows d hs p → Concludes (eq_sym d) (by_sym (sequent hs p))

abbrev pub TransShows : Type 0
TransShows = (d e : Derivation) (hs ks : Terms) (p q : Term) → CanTrans p q → Shows d hs p → Shows e ks q
    → Concludes (eq_trans d e) (by_trans (sequent hs p) (sequent ks q))

abbrev pub CombShows : Type 0
CombShows = (d e : Derivation) (hs ks : Terms) (p q : Term) → CanComb p q → Shows d hs p → Shows e ks q
    → Concludes (comb d e) (by_comb (sequent hs p) (sequent ks q))

abbrev pub AbsShows : Type 0
AbsShows = (x : Name) (a : Typ) (d : Derivation) (hs : Terms) (p : Term) → CanAbs x hs p → Shows d hs p
    → Concludes (abs x a d) (by_abs x a (sequent hs p))

abbrev pub EqIntrShows : Type 0
EqIntrShows = (d e : Derivation) (hs ks : Terms) (p q : Term) → CanEqIntr p q → Shows d hs p → Shows e ks q
    → Concludes (eq_intr d e) (by_eq_intr (sequent hs p) (sequent ks q))

abbrev pub EqElimShows : Type 0
EqElimShows = (d e : Derivation) (hs ks : Terms) (p q : Term) → CanEqElim p q → Shows d hs p → Shows e ks q
    → Concludes (eq_elim d e) (by_eq_elim (sequent hs p) (sequent ks q))

abbrev pub ConvShows : Type 0
ConvShows = (b : Term) (d : Derivation) (hs : Terms) (p : Term) → CanConv b p → Shows d hs p → Concludes (conv b d) (by_conv b (sequent hs p))

abbrev pub InstShows : Type 0
InstShows = (s : Instance) (d : Derivation) (hs : Terms) (p : Term) → AreKeysApart s → CanInst s hs → Shows d hs p
    → Concludes (inst s d) (by_inst s (sequent hs p))

-- under an instance with typed values propositions stay propositions
abbrev pub InstancedIsProp : Type 0
InstancedIsProp = (s : Instance) (t : Term) → AreValuesTyped s → IsProp t → IsProp (instanced s t)

abbrev pub InstancedAreProps : Type 0
InstancedAreProps = (s : Instance) (hs : Terms) → AreValuesTyped s → AreProps hs → AreProps (instanced_hyps s hs)
