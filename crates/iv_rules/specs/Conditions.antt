-- When a rule can be used: the condition of each, on its arguments and its premises H |- p and K |- q (Reference Manual,
-- primitive inferences; the selection is of this project).
use Rattle.std.specs.Prelude.{◌≡◌, false}
use Rattle.iv_text.specs.declared.name.Name.{Name}
use Rattle.iv_term.specs.declared.typ.Typ.TheBlock.{Nil as no_types}
use Rattle.iv_term.specs.declared.term.Term.{Term}
use Rattle.iv_term.specs.declared.term.Terms.{Terms}
use Rattle.iv_term.specs.Typ.{prop, fun}
use Rattle.iv_term.specs.Term.{imp, antecedent, consequent, IsImplication}
use Rattle.iv_hsub.specs.Typing.{cod, type_of}
use Rattle.iv_hsub.specs.Hhf.{hhf}
use Rattle.iv_rules.specs.declared.instance.Instance.{Instance}
use Rattle.iv_rules.specs.Eigenvariable.{any_has_named}
use Rattle.iv_rules.specs.Equality.{eq, rhs, side_type, IsEquation, all, predicate}
use Rattle.iv_rules.specs.Instance.{AreValuesTyped, IsFreshFor}
use Rattle.iv_rules.specs.Sequent.{IsClosed, IsProp}

-- p is an implication from q
abbrev pub CanImpElim : Term → Term → Type 0
CanImpElim p q = p ≡ imp q (consequent p)

-- no free variable named x, of whatever type, stands in H
abbrev pub CanAllIntr : Name → Terms → Type 0
CanAllIntr x hs = any_has_named x hs ≡ false

-- v has no loose index, and p is !!x. B for an x of its type
abbrev pub CanAllElim : Term → Term → Type 0
CanAllElim v p = IsClosed v × (p ≡ all (type_of no_types v) (predicate p))

-- p is s == t, and q is t == u
abbrev pub CanTrans : Term → Term → Type 0
CanTrans p q = IsEquation p × (q ≡ eq (side_type p) (rhs p) (rhs q))

-- p is f == g, and q is x == y, where f and g take x's type
abbrev pub CanComb : Term → Term → Type 0
CanComb p q = IsEquation p × IsEquation q × (side_type p ≡ fun (side_type q) (cod (side_type p)))

-- p is an equation, and no free variable named x, of whatever type, stands in H
abbrev pub CanAbs : Name → Terms → Term → Type 0
CanAbs x hs p = IsEquation p × (any_has_named x hs ≡ false)

-- p is A ==> B, and q is B ==> A
abbrev pub CanEqIntr : Term → Term → Type 0
CanEqIntr p q = IsImplication p × (q ≡ imp (consequent p) (antecedent p))

-- p is q == B
abbrev pub CanEqElim : Term → Term → Type 0
CanEqElim p q = p ≡ eq prop q (rhs p)

-- b is a proposition that has one form with p, with each !! in front
abbrev pub CanConv : Term → Term → Type 0
CanConv b p = IsProp b × (hhf p ≡ hhf b)

-- each value has its key's type, and the types and free variables that s replaces aren't in H
abbrev pub CanInst : Instance → Terms → Type 0
CanInst s hs = AreValuesTyped s × IsFreshFor s hs
