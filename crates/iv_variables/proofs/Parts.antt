-- Tests and steps over two parts of a walk, one after the other.
use Rattle.std.proofs.Common.{◌≡◌, Bool, true, false, ◌||◌, List, [], ◌∷◌, ◌++◌, Result, Ok, Err, IsErrAnd, IfErr, OnOk, inl, inr, refl, sym, ◌∙◌, ap, subst}
use Rattle.std.specs.List.{list_any, fold}
use Rattle.std.proofs.lemmas.List.Folds.{list_any-append}
use Rattle.std.proofs.lemmas.List.Sums.{fold-append}
use Rattle.iv_text.specs.declared.want.Want.{Want}
use Rattle.iv_variables.specs.declared.variable.Variable.{Variable}
use Rattle.iv_variables.specs.Variables.{IsOfOne}

pub alone : (b c : Bool) → c ≡ b → c ≡ (b || false)
alone true c h = h
alone false c h = h

module _ (p : Variable → Bool) (xs ys : List Variable) where
  -- the test passed in the first part
  pub found : (b : Bool) → b ≡ list_any p xs → b ≡ true → true ≡ list_any p (xs ++ ys)
  found b e t = sym (list_any-append p xs ys ∙ ap (λ z. z || list_any p ys) (sym e ∙ t))

  -- it did not, and the second part decides
  pub missed : (b c : Bool) → b ≡ list_any p xs → b ≡ false → c ≡ list_any p ys → c ≡ list_any p (xs ++ ys)
  missed b c e f d = d ∙ sym (list_any-append p xs ys ∙ ap (λ z. z || list_any p ys) (sym e ∙ f))

on_ok : {T : Type 0} (r : Result T Want) (P Q : Type 0) → (P → Q) → OnOk r P → OnOk r Q
on_ok (Ok x) P Q f h = f h
on_ok (Err e) P Q f h = tt

-- the second part goes on where the first ended
pub stepped : {T S : Type 0} (r : Result T Want) (f : S → Variable → S) (s m e : S) (xs ys : List Variable) → m ≡ fold f s xs → OnOk r (e ≡ fold f m ys)
    → OnOk r (e ≡ fold f s (xs ++ ys))
stepped r f s m e xs ys h k = on_ok r _ _ (λ q. q ∙ ap (λ z. fold f z ys) h ∙ sym (fold-append f s xs ys)) k

module _ (P : Variable → Type 0) where
  one-left : (xs ys : List Variable) → IsOfOne P xs → IsOfOne P (xs ++ ys)
  unfolding IsOfOne
  one-left [] ys h = absurd h
  one-left (x ∷ xs) ys (inl h) = inl h
  one-left (x ∷ xs) ys (inr h) = inr (one-left xs ys h)

  one-right : (xs ys : List Variable) → IsOfOne P ys → IsOfOne P (xs ++ ys)
  unfolding IsOfOne
  one-right [] ys h = h
  one-right (x ∷ xs) ys h = inr (one-right xs ys h)

module _ {T : Type 0} (F : Variable → Want → Type 0) where
  -- what a call at a variable may answer, and at a variable before others
  pub at_one : (r : Result T Want) (v : Variable) → IfErr r (λ w. F v w) → IfErr r (λ w. IsOfOne (λ u. F u w) (v ∷ []))
  unfolding IsOfOne
  at_one (Ok x) v h = tt
  at_one (Err e) v h = inl h

  pub at_first : (r : Result T Want) (w : Want) (v : Variable) (vs : List Variable) → IsErrAnd r (λ y. y ≡ w) → F v w → IfErr r (λ z. IsOfOne (λ u. F u z) (v ∷ vs))
  unfolding IsOfOne
  at_first (Ok x) w v vs h p = tt
  at_first (Err e) w v vs h p = inl (subst (F v) (sym h) p)

  pub at_rest : (r : Result T Want) (v : Variable) (vs : List Variable) → IfErr r (λ w. IsOfOne (λ u. F u w) vs) → IfErr r (λ w. IsOfOne (λ u. F u w) (v ∷ vs))
  unfolding IsOfOne
  at_rest (Ok x) v vs h = tt
  at_rest (Err e) v vs h = inr h

  -- what a `?` hands on of the first part, and what the second may answer
  pub of_first : (r : Result T Want) (w : Want) (xs ys : List Variable) → IsErrAnd r (λ y. y ≡ w) → IsOfOne (λ u. F u w) xs
      → IfErr r (λ z. IsOfOne (λ u. F u z) (xs ++ ys))
  of_first (Ok x) w xs ys h p = tt
  of_first (Err e) w xs ys h p = one-left (λ u. F u e) xs ys (subst (λ z. IsOfOne (λ u. F u z) xs) (sym h) p)

  pub of_second : (r : Result T Want) (xs ys : List Variable) → IfErr r (λ w. IsOfOne (λ u. F u w) ys) → IfErr r (λ w. IsOfOne (λ u. F u w) (xs ++ ys))
  of_second (Ok x) xs ys h = tt
  of_second (Err e) xs ys h = one-right (λ u. F u e) xs ys h
