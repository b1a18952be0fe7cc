-- Steps along a table.
use Rattle.std.proofs.Common.{◌≡◌, ℕ, ◌+◌, ◌≤◌, List, ◌∷◌, length, drop, slice_get, ap, ◌∙◌}
use Rattle.std.specs.Prelude.{Bool, true, false, cond, find, None, Some}
use Rattle.std.proofs.lemmas.List.{drop_more, drop_all}
use Rattle.std.proofs.lemmas.Option.{slice_get_within, get_or_from_slice_get}

module _ {A : Type 0} where
  drop-at : (xs : List A) (i : ℕ) (x : A) → slice_get xs i ≡ Some x → drop i xs ≡ x ∷ drop (i + 1) xs
  drop-at xs i x h = drop_more xs i x (slice_get_within xs i x h) ∙ ap (λ y. y ∷ drop (i + 1) xs) (get_or_from_slice_get xs i x x h)

  pub find-here : (p : A → Bool) (xs : List A) (i : ℕ) (x : A) → slice_get xs i ≡ Some x → find p xs ≡ find p (drop i xs) → p x ≡ true → find p xs ≡ Some x
  find-here p xs i x h f e = f ∙ (ap (find p) (drop-at xs i x h) ∙ ap (λ b. cond b (Some x) (find p (drop (i + 1) xs))) e)

  pub find-on : (p : A → Bool) (xs : List A) (i : ℕ) (x : A) → slice_get xs i ≡ Some x → find p xs ≡ find p (drop i xs) → p x ≡ false → find p xs ≡ find p (drop (i + 1) xs)
  find-on p xs i x h f e = f ∙ (ap (find p) (drop-at xs i x h) ∙ ap (λ b. cond b (Some x) (find p (drop (i + 1) xs))) e)

  pub find-end : (p : A → Bool) (xs : List A) (i : ℕ) → length xs ≤ i → find p xs ≡ find p (drop i xs) → find p xs ≡ None
  find-end p xs i h f = f ∙ ap (find p) (drop_all i xs h)
