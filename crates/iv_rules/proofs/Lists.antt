-- Lists of entries with keys that differ.
use Rattle.std.proofs.Common.{◌≡◌, ℕ, Bool, true, false, List, [], ◌∷◌, ◌++◌, Option, None, Some, ◌<◌, ◌≤◌, ◌+◌, length, drop, get_or, if◌then◌else◌, refl, sym, ◌∙◌, ap}
use Rattle.std.proofs.lemmas.List.{drop_more, drop_all}
use Rattle.std.specs.List.{IsDistinct, AllByRecursion}
use Rattle.std.specs.Map.{lookup, keys_of}

module _ {K V : Type 0} (test : K → Bool) where
  pub look-here : (s0 s : List (K × V)) (i : ℕ) (e : K × V) → lookup test s0 ≡ lookup test (drop i s) → i < length s → e ≡ get_or s i e
      → test e.0 ≡ true → Some e.1 ≡ lookup test s0
  look-here s0 s i e k l g q =
      let h : drop i s ≡ e ∷ drop (i + 1) s = drop_more s i e l ∙ ap (λ z. z ∷ drop (i + 1) s) (sym g) in
      let step : lookup test (e ∷ drop (i + 1) s) ≡ Some e.1 = rw q refl in
      sym (k ∙ ap (λ z. lookup test z) h ∙ step)

  pub look-on : (s0 s : List (K × V)) (i : ℕ) (e : K × V) → lookup test s0 ≡ lookup test (drop i s) → i < length s → e ≡ get_or s i e
      → test e.0 ≡ false → lookup test s0 ≡ lookup test (drop (i + 1) s)
  look-on s0 s i e k l g q =
      let h : drop i s ≡ e ∷ drop (i + 1) s = drop_more s i e l ∙ ap (λ z. z ∷ drop (i + 1) s) (sym g) in
      let step : lookup test (e ∷ drop (i + 1) s) ≡ lookup test (drop (i + 1) s) = rw q refl in
      k ∙ ap (λ z. lookup test z) h ∙ step

  pub look-end : (s0 s : List (K × V)) (i : ℕ) → lookup test s0 ≡ lookup test (drop i s) → length s ≤ i → None ≡ lookup test s0
  look-end s0 s i k l = sym (k ∙ ap (λ z. lookup test z) (drop_all i s l))

-- what holds of each key
module _ {K V : Type 0} (P : K → Type 0) where
  all-push : (es : List (K × V)) (x : K) (v : V) → AllByRecursion P (keys_of es) → P x → AllByRecursion P (keys_of (es ++ (x, v) ∷ []))
  all-push [] x v h p = (p, tt)
  all-push (e ∷ es) x v h p = (h.0, all-push es x v h.1 p)

module _ {K V : Type 0} (same : K → K → Bool) where
  -- a new key differs from the one in front, and is new behind it
  parts : (v : V) (o : Option V) (b : Bool) → (if b then Some v else o) ≡ None → (b ≡ false) × (o ≡ None)
  parts v o true h = absurd (let bad : Some v ≡ None = h in cc)
  parts v o false h = (refl, h)

  pub distinct-push : (es : List (K × V)) (x : K) (v : V) → IsDistinct same (keys_of es) → lookup (λ k. same k x) es ≡ None
      → IsDistinct same (keys_of (es ++ (x, v) ∷ []))
  unfolding IsDistinct
  distinct-push [] x v d n = (tt, tt)
  distinct-push (e ∷ es) x v d n =
      let p = parts e.1 (lookup (λ k. same k x) es) (same e.0 x) n in
      (all-push (λ y. same e.0 y ≡ false) es x v d.0 p.0, distinct-push es x v d.1 p.1)
