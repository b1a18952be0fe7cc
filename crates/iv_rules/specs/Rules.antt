-- What derivations conclude (Reference Manual, primitive inferences; the selection is of this project).
use Rattle.std.specs.Prelude.{ℕ, List, [], ◌∷◌, ◌++◌, Contains}
use Rattle.iv_text.specs.declared.name.Name.{Name}
use Rattle.iv_term.specs.declared.typ.Typ.{Typ}
use Rattle.iv_term.specs.declared.term.Term.{Term}
use Rattle.iv_term.specs.declared.term.Terms.{Terms}
use Rattle.iv_rules.specs.declared.instance.Instance.{Instance}
use Rattle.iv_rules.specs.declared.derivation.Derivation.{Derivation}
use Rattle.iv_rules.specs.declared.derivation.Derivation.TheBlock.{Axiom, Assume, Refl}
use Rattle.iv_rules.specs.Derivation.{imp_intr, imp_elim, all_intr, all_elim, eq_sym, eq_trans, comb, abs, eq_intr, eq_elim, conv, inst}
use Rattle.iv_rules.specs.Equality.{IsEquation}
use Rattle.iv_rules.specs.Instance.{AreKeysApart}
use Rattle.iv_rules.specs.Conditions.{CanImpElim, CanAllIntr, CanAllElim, CanTrans, CanComb, CanAbs, CanEqIntr, CanEqElim, CanConv, CanInst}
use Rattle.iv_rules.specs.Sequent.{Sequent, sequent, closed, IsClosed, IsProp, Gives}
use Rattle.iv_rules.specs.Conclusions.{by_axiom, by_assume, by_imp_intr, by_imp_elim, by_all_intr, by_all_elim, by_refl, by_sym, by_trans, by_comb, by_abs, by_eq_intr, by_eq_elim, by_conv, by_inst}

-- The rules: when r follows from the premises p and q, which are H |- .. and K |- .., under the rule's condition.
-- A conclusion is a sequent, so what it shows is of type prop, without loose indices.
abbrev pub FollowsByAxiom : Term → Sequent → Type 0
FollowsByAxiom a r = Gives (by_axiom a) r

abbrev pub FollowsByAssume : Term → Sequent → Type 0
FollowsByAssume a r = Gives (by_assume a) r

-- where A is a proposition
abbrev pub FollowsByImpIntr : Term → Sequent → Sequent → Type 0
FollowsByImpIntr a p r = IsProp a × Gives (by_imp_intr a p) r

abbrev pub FollowsByImpElim : Sequent → Sequent → Sequent → Type 0
FollowsByImpElim p q r = CanImpElim p.prop q.prop × Gives (by_imp_elim p q) r

abbrev pub FollowsByAllIntr : Name → Typ → Sequent → Sequent → Type 0
FollowsByAllIntr x a p r = CanAllIntr x p.hyps × Gives (by_all_intr x a p) r

abbrev pub FollowsByAllElim : Term → Sequent → Sequent → Type 0
FollowsByAllElim v p r = CanAllElim v p.prop × Gives (by_all_elim v p) r

abbrev pub FollowsByRefl : Term → Sequent → Type 0
FollowsByRefl v r = IsClosed v × Gives (by_refl v) r

abbrev pub FollowsBySym : Sequent → Sequent → Type 0
FollowsBySym p r = IsEquation p.prop × Gives (by_sym p) r

abbrev pub FollowsByTrans : Sequent → Sequent → Sequent → Type 0
FollowsByTrans p q r = CanTrans p.prop q.prop × Gives (by_trans p q) r

abbrev pub FollowsByComb : Sequent → Sequent → Sequent → Type 0
FollowsByComb p q r = CanComb p.prop q.prop × Gives (by_comb p q) r

abbrev pub FollowsByAbs : Name → Typ → Sequent → Sequent → Type 0
FollowsByAbs x a p r = CanAbs x p.hyps p.prop × Gives (by_abs x a p) r

abbrev pub FollowsByEqIntr : Sequent → Sequent → Sequent → Type 0
FollowsByEqIntr p q r = CanEqIntr p.prop q.prop × Gives (by_eq_intr p q) r

abbrev pub FollowsByEqElim : Sequent → Sequent → Sequent → Type 0
FollowsByEqElim p q r = CanEqElim p.prop q.prop × Gives (by_eq_elim p q) r

abbrev pub FollowsByConv : Term → Sequent → Sequent → Type 0
FollowsByConv b p r = CanConv b p.prop × Gives (by_conv b p) r

abbrev pub FollowsByInst : Instance → Sequent → Sequent → Type 0
FollowsByInst s p r = AreKeysApart s × CanInst s p.hyps × Gives (by_inst s p) r

-- a premise is concluded, and so are two
abbrev pub From : (Sequent → Type 0) → (Sequent → Type 0) → Type 0
From D F = (p : Sequent) × (D p × F p)

abbrev pub FromBoth : (Sequent → Type 0) → (Sequent → Type 0) → (Sequent → Sequent → Type 0) → Type 0
FromBoth D E F = (p : Sequent) × ((q : Sequent) × (D p × E q × F p q))

-- a derivation concludes a sequent
unfoldable pub Concludes : Derivation → Sequent → Type 0
Concludes (Axiom n a) r = FollowsByAxiom a r
Concludes (Assume a) r = FollowsByAssume a r
Concludes (imp_intr a d) r = From (λ p. Concludes d p) (λ p. FollowsByImpIntr a p r)
Concludes (imp_elim d e) r = FromBoth (λ p. Concludes d p) (λ q. Concludes e q) (λ p q. FollowsByImpElim p q r)
Concludes (all_intr x a d) r = From (λ p. Concludes d p) (λ p. FollowsByAllIntr x a p r)
Concludes (all_elim v d) r = From (λ p. Concludes d p) (λ p. FollowsByAllElim v p r)
Concludes (Refl v) r = FollowsByRefl v r
Concludes (eq_sym d) r = From (λ p. Concludes d p) (λ p. FollowsBySym p r)
Concludes (eq_trans d e) r = FromBoth (λ p. Concludes d p) (λ q. Concludes e q) (λ p q. FollowsByTrans p q r)
Concludes (comb d e) r = FromBoth (λ p. Concludes d p) (λ q. Concludes e q) (λ p q. FollowsByComb p q r)
Concludes (abs x a d) r = From (λ p. Concludes d p) (λ p. FollowsByAbs x a p r)
Concludes (eq_intr d e) r = FromBoth (λ p. Concludes d p) (λ q. Concludes e q) (λ p q. FollowsByEqIntr p q r)
Concludes (eq_elim d e) r = FromBoth (λ p. Concludes d p) (λ q. Concludes e q) (λ p q. FollowsByEqElim p q r)
Concludes (conv b d) r = From (λ p. Concludes d p) (λ p. FollowsByConv b p r)
Concludes (inst s d) r = From (λ p. Concludes d p) (λ p. FollowsByInst s p r)

-- the derivation concludes hs |- p
abbrev pub Shows : Derivation → Terms → Term → Type 0
Shows d hs p = Concludes d (sequent hs p)

-- the axioms that a derivation rests on, each with its name
unfoldable pub axioms_of : Derivation → List (List ℕ × Term)
axioms_of (Axiom n a) = (n, a) ∷ []
axioms_of (Assume a) = []
axioms_of (imp_intr a d) = axioms_of d
axioms_of (imp_elim d e) = axioms_of d ++ axioms_of e
axioms_of (all_intr x a d) = axioms_of d
axioms_of (all_elim v d) = axioms_of d
axioms_of (Refl v) = []
axioms_of (eq_sym d) = axioms_of d
axioms_of (eq_trans d e) = axioms_of d ++ axioms_of e
axioms_of (comb d e) = axioms_of d ++ axioms_of e
axioms_of (abs x a d) = axioms_of d
axioms_of (eq_intr d e) = axioms_of d ++ axioms_of e
axioms_of (eq_elim d e) = axioms_of d ++ axioms_of e
axioms_of (conv b d) = axioms_of d
axioms_of (inst s d) = axioms_of d

-- a derivation rests on some of these axioms alone
abbrev pub RestsOn : List (List ℕ × Term) → Derivation → Type 0
RestsOn axioms d = (a : List ℕ × Term) → Contains (axioms_of d) a → Contains axioms a

-- some derivation concludes the proposition without hypotheses, from these axioms alone
abbrev pub Derivable : List (List ℕ × Term) → Term → Type 0
Derivable axioms p = (d : Derivation) × (Concludes d (closed p) × RestsOn axioms d)

-- a sequent, and the derivation that concludes it
pub record Proved : Type 0 where
  pub hyps : Terms
  pub prop : Term
  pub derivation : Derivation

-- its sequent
abbrev pub said : Proved → Sequent
said t = sequent t.hyps t.prop

-- the derivation concludes the sequent
abbrev pub Kept : Proved → Type 0
Kept t = Concludes t.derivation (said t)
