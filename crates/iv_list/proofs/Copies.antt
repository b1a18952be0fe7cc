-- A copy of a list grows item by item.
use Rattle.std.proofs.Common.{◌≡◌, ℕ, List, [], ◌∷◌, ◌++◌, sym, ap, ◌∙◌, ◌+◌, ◌≤◌, ◌<◌, length, drop, get_or}
use Rattle.std.proofs.lemmas.List.{append_assoc, append-nil, drop_more, drop_all}

module _ {X : Type 0} where
  pub copied-on : (old new s all : List X) (i : ℕ) (e x : X) → i < length s → e ≡ get_or s i e → old ++ drop i s ≡ all → x ≡ e → new ≡ old ++ x ∷ []
      → new ++ drop (i + 1) s ≡ all
  copied-on old new s all i e x inside g h same n =
      let step : drop i s ≡ e ∷ drop (i + 1) s = drop_more s i e inside ∙ ap (λ z. z ∷ drop (i + 1) s) (sym g) in
      ap (λ z. z ++ drop (i + 1) s) (n ∙ ap (λ z. old ++ z ∷ []) same) ∙ append_assoc old (e ∷ []) (drop (i + 1) s) ∙ ap (λ z. old ++ z) (sym step) ∙ h

  pub copied-end : (copy s all : List X) (i : ℕ) → copy ++ drop i s ≡ all → length s ≤ i → copy ≡ all
  copied-end copy s all i h past = sym (append-nil copy) ∙ ap (λ z. copy ++ z) (sym (drop_all i s past)) ∙ h
