-- A loop that looks for an item that passes a test.
use Rattle.std.proofs.Common.{◌≡◌, ℕ, Bool, true, false, ◌||◌, List, ◌+◌, ◌<◌, ◌≤◌, length, drop, get_or, sym, ap, ◌∙◌}
use Rattle.std.proofs.lemmas.List.{drop_more, drop_all}
use Rattle.std.specs.List.{list_any}

module _ {X : Type 0} (p : X → Bool) where
  rest : (xs : List X) (i : ℕ) (d : X) → list_any p xs ≡ list_any p (drop i xs) → i < length xs → list_any p xs ≡ (p (get_or xs i d) || list_any p (drop (i + 1) xs))
  rest xs i d h l = h ∙ ap (list_any p) (drop_more xs i d l)

  pub any-here : (xs : List X) (i : ℕ) (d : X) → list_any p xs ≡ list_any p (drop i xs) → i < length xs → p (get_or xs i d) ≡ true → true ≡ list_any p xs
  any-here xs i d h l t = sym (rest xs i d h l ∙ ap (λ b. b || list_any p (drop (i + 1) xs)) t)

  pub any-on : (xs : List X) (i : ℕ) (d : X) → list_any p xs ≡ list_any p (drop i xs) → i < length xs → p (get_or xs i d) ≡ false → list_any p xs ≡ list_any p (drop (i + 1) xs)
  any-on xs i d h l t = rest xs i d h l ∙ ap (λ b. b || list_any p (drop (i + 1) xs)) t

  pub any-end : (xs : List X) (i : ℕ) → list_any p xs ≡ list_any p (drop i xs) → length xs ≤ i → false ≡ list_any p xs
  any-end xs i h l = sym (h ∙ ap (list_any p) (drop_all i xs l))
