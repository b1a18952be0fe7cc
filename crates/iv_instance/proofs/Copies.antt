-- Lists of entries with keys that differ, copied entry by entry.
use Rattle.std.proofs.Common.{◌≡◌, ℕ, Bool, false, List, [], ◌∷◌, ◌++◌, None, Some, ◌≤◌, ◌+◌, length, drop, slice_get, refl, sym, ◌∙◌, ap, subst}
use Rattle.std.proofs.lemmas.List.{append_assoc, append-nil, drop_more, drop_all}
use Rattle.std.proofs.lemmas.Option.{slice_get_within, get_or_from_slice_get}
use Rattle.std.specs.List.{IsDistinct, AllByRecursion}
use Rattle.std.specs.Map.{lookup, keys_of}

-- the element at an index, and those behind it
drop-at : {X : Type 0} (s : List X) (i : ℕ) (e : X) → slice_get s i ≡ Some e → drop i s ≡ e ∷ drop (i + 1) s
drop-at s i e h = drop_more s i e (slice_get_within s i e h) ∙ ap (λ z. z ∷ drop (i + 1) s) (get_or_from_slice_get s i e e h)

-- a copy, element by element
pub copied-on : {X : Type 0} (out more s : List X) (i : ℕ) (e : X) → slice_get s i ≡ Some e → out ++ drop i s ≡ s → more ≡ out ++ e ∷ [] → more ++ drop (i + 1) s ≡ s
copied-on out more s i e g h q =
    ap (λ z. z ++ drop (i + 1) s) q ∙ append_assoc out (e ∷ []) (drop (i + 1) s) ∙ ap (λ z. out ++ z) (sym (drop-at s i e g)) ∙ h

pub copied-end : {X : Type 0} (out s : List X) (i : ℕ) → out ++ drop i s ≡ s → length s ≤ i → out ≡ s
copied-end out s i h l = sym (append-nil out) ∙ ap (λ z. out ++ z) (sym (drop_all i s l)) ∙ h

module _ {K V : Type 0} (P : K → Type 0) where
  all-at : (out rest : List (K × V)) (x : K) (v : V) → AllByRecursion P (keys_of (out ++ (x, v) ∷ rest)) → P x
  all-at [] rest x v h = h.0
  all-at (e ∷ out) rest x v h = all-at out rest x v h.1

module _ {K V : Type 0} (same : K → K → Bool) where
  absent : (out rest : List (K × V)) (x : K) (v : V) → IsDistinct same (keys_of (out ++ (x, v) ∷ rest)) → lookup (λ k. same k x) out ≡ None
  unfolding IsDistinct
  absent [] rest x v d = refl
  absent (e ∷ out) rest x v d =
      let f : same e.0 x ≡ false = all-at (λ y. same e.0 y ≡ false) out rest x v d.0 in
      let step : lookup (λ k. same k x) (e ∷ out) ≡ lookup (λ k. same k x) out = rw f refl in
      step ∙ absent out rest x v d.1

  -- the key of an entry that is to be copied isn't among those that were
  pub copied-new : (out s : List (K × V)) (i : ℕ) (x : K) (v : V) → IsDistinct same (keys_of s) → slice_get s i ≡ Some (x, v)
      → out ++ drop i s ≡ s → lookup (λ k. same k x) out ≡ None
  copied-new out s i x v d g h =
      let q : s ≡ out ++ (x, v) ∷ drop (i + 1) s = sym h ∙ ap (λ z. out ++ z) (drop-at s i (x, v) g) in
      absent out (drop (i + 1) s) x v (subst (λ z. IsDistinct same (keys_of z)) q d)
