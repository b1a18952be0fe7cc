-- What the tests of types say.
use Rattle.std.proofs.Common.{◌≡◌, Bool, true, false, IsTrue, ◌↔◌, sym, ap, ◌∙◌}
use Rattle.iv_term.specs.declared.typ.Typ.{Typ}
use Rattle.iv_term.specs.Typ.{prop, fun}
use Rattle.iv_hsub.specs.Typing.{dom, cod}
use Rattle.iv_sig.specs.Conditions.{IsJudgmentType}

never : (P : Type 0) → (P → ⊥) → (IsTrue false ↔ P)
never P n = (λ h. absurd (let bad : false ≡ true = h in cc), λ p. absurd (n p))

is_not : (P : Type 0) (b : Bool) → (IsTrue b ↔ P) → b ≡ false → P → ⊥
is_not P b d e p = let bad : false ≡ true = sym e ∙ d.1 p in cc

module _ (a : Typ) where
  to-prop : IsJudgmentType a → cod a ≡ prop
  unfolding cod
  to-prop p = ap cod p.0

  pub not-function : (r : Bool) → (IsTrue r ↔ (a ≡ fun (dom a) (cod a))) → r ≡ false → (IsTrue false ↔ IsJudgmentType a)
  not-function r d e = never _ (λ p. is_not _ r d e (p.0 ∙ ap (fun (dom a)) (sym (to-prop p))))

  pub not-to_prop : (r : Bool) → (IsTrue r ↔ (cod a ≡ prop)) → r ≡ false → (IsTrue false ↔ IsJudgmentType a)
  not-to_prop r d e = never _ (λ p. is_not _ r d e (to-prop p))
