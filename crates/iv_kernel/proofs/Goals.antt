-- What the premises of a goal's proposition are.
use Rattle.std.proofs.Common.{◌≡◌, ℕ, zero, suc, [], ◌∷◌, length, Bool, true, false, Result, Ok, Err, IfOk, refl, sym, ap, ◌∙◌}
use Rattle.std.specs.Prelude.{slice_get, Some}
use Rattle.std.specs.Bool.{Decides}
use Rattle.iv_term.specs.declared.term.Term.{Term}
use Rattle.iv_term.specs.declared.term.Term.TheBlock.{Nil}
use Rattle.iv_term.specs.Term.{imp, antecedent, consequent, IsImplication}
use Rattle.iv_term.specs.Hyps.{without}
use Rattle.iv_hsub.specs.Hhf.{one}
use Rattle.iv_rules.specs.Laws.{SameIsEqual}
use Rattle.iv_text.specs.declared.want.Want.{Want}
use Rattle.iv_kernel.specs.Goal.{goal_prop, premises_of, IsGoalProp, IsInForm, IsGoal}

pub length-premises_of : (n : ℕ) (p : Term) → length (premises_of n p) ≡ n
unfolding premises_of
length-premises_of zero p = refl
length-premises_of (suc n) p = ap suc (length-premises_of n (consequent p))

-- the proposition of one premise
pub one-premise : (p s c : Term) → p ≡ imp s c → IsInForm s → IsGoal 1 p c
unfolding goal_prop premises_of
one-premise p s c e f = rw e (refl, (f, tt))

pub premises-one : (p s c : Term) → p ≡ imp s c → premises_of 1 p ≡ s ∷ []
unfolding premises_of
premises-one p s c e = rw e

pub without-only : SameIsEqual → (a : Term) → without a (one a) ≡ Nil
unfolding without
without-only same a = rw ((same a a).1 refl) refl

-- without premises the proposition is the claim
pub none-left : (p c : Term) → IsGoalProp 0 p c → p ≡ c
unfolding goal_prop premises_of
none-left p c e = e

pub leads-now : (n : ℕ) (p c : Term) (b : Bool) → n ≡ 0 → Decides b (p ≡ c) → Decides b (IsGoal n p c)
unfolding goal_prop premises_of
leads-now n p c b e d = rw e (λ h. (d.0 h, tt), λ h. d.1 h.0)

pub leads-on : (n m : ℕ) (p c : Term) (b : Bool) → n ≡ suc m → IsImplication p → IsInForm (antecedent p) → Decides b (IsGoal m (consequent p) c) → Decides b (IsGoal n p c)
unfolding goal_prop premises_of
leads-on n m p c b e is f d =
    rw e (λ t. (is ∙ ap (imp (antecedent p)) (d.0 t).0, (f, (d.0 t).1)), λ h. d.1 (ap consequent h.0, h.1.1))

pub leads-no : (n m : ℕ) (p c : Term) (b : Bool) → n ≡ suc m → b ≡ false → Decides b (IsImplication p) → Decides false (IsGoal n p c)
unfolding goal_prop premises_of
leads-no n m p c b e untold d =
    rw e (
      λ t. absurd (let bad : false ≡ true = t in cc),
      λ h. let i : IsImplication p = h.0 ∙ ap (imp (antecedent p)) (sym (ap consequent h.0)) in sym untold ∙ d.1 i,
    )

pub leads-unformed : (n m : ℕ) (p c : Term) (b : Bool) → n ≡ suc m → b ≡ false → Decides b (IsInForm (antecedent p)) → Decides false (IsGoal n p c)
unfolding goal_prop premises_of
leads-unformed n m p c b e untold d =
    rw e (λ t. absurd (let bad : false ≡ true = t in cc), λ h. sym untold ∙ d.1 h.1.0)

-- the premise behind some others
pub premise-first : (n m : ℕ) (p : Term) (k : ℕ) → n ≡ suc m → k ≡ 0 → slice_get (premises_of n p) k ≡ Some (antecedent p)
unfolding premises_of
premise-first n m p k e z = rw (e, z)

pub premise-later : (n m : ℕ) (p : Term) (k j : ℕ) (t : Term) → n ≡ suc m → k ≡ suc j → slice_get (premises_of m (consequent p)) j ≡ Some t → slice_get (premises_of n p) k ≡ Some t
unfolding premises_of
premise-later n m p k j t e z h = rw (e, z) h

-- a later call's answer
pub leads-later : (n m : ℕ) (p c : Term) (r : Result Bool Want) → n ≡ suc m → IsImplication p → IsInForm (antecedent p) → IfOk r (λ b. Decides b (IsGoal m (consequent p) c))
    → IfOk r (λ b. Decides b (IsGoal n p c))
leads-later n m p c (Ok b) e is f d = leads-on n m p c b e is f d
leads-later n m p c (Err w) e is f d = tt
