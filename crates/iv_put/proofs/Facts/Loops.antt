-- What the loops over a substitution's terms keep.
use Rattle.std.proofs.Common.{◌≡◌, ℕ, true, false, [], ◌∷◌, ◌++◌, Some, ◌≤◌, ◌+◌, length, drop, slice_get, refl, sym, ◌∙◌, ap, subst}
use Rattle.std.proofs.lemmas.List.{append_assoc, append-nil, drop_all}
use Rattle.iv_text.specs.declared.name.Name.{Name}
use Rattle.iv_term.specs.declared.term.Term.{Term}
use Rattle.iv_subst.proofs.Laws.Entries.{drop-at}
use Rattle.iv_put.specs.Subst.{TermMap, Substitution, has_value, applied, CanApply, Values, under, unhidden}
use Rattle.iv_put.proofs.Facts.Values.{both}

-- the entries that a first map doesn't hide
module _ (first : TermMap) where
  pub unhidden-passed : (out m : TermMap) (i : ℕ) (x : Name) (v : Term) → has_value first x ≡ true → slice_get m i ≡ Some (x, v)
      → out ++ unhidden first (drop (i + 1) m) ≡ out ++ unhidden first (drop i m)
  unfolding unhidden
  unhidden-passed out m i x v b h =
      let step : unhidden first ((x, v) ∷ drop (i + 1) m) ≡ unhidden first (drop (i + 1) m) = rw b refl in
      ap (λ z. out ++ z) (sym (ap (unhidden first) (drop-at m i (x, v) h) ∙ step))

  pub unhidden-pushed : (out more m : TermMap) (i : ℕ) (x : Name) (v : Term) → has_value first x ≡ false → more ≡ out ++ (x, v) ∷ []
      → slice_get m i ≡ Some (x, v) → more ++ unhidden first (drop (i + 1) m) ≡ out ++ unhidden first (drop i m)
  unfolding unhidden
  unhidden-pushed out more m i x v b q h =
      let step : unhidden first ((x, v) ∷ drop (i + 1) m) ≡ (x, v) ∷ unhidden first (drop (i + 1) m) = rw b refl in
      ap (λ z. z ++ unhidden first (drop (i + 1) m)) q ∙ append_assoc out ((x, v) ∷ []) (unhidden first (drop (i + 1) m))
      ∙ ap (λ z. out ++ z) (sym (ap (unhidden first) (drop-at m i (x, v) h) ∙ step))

  pub unhidden-end : (b0 b : Substitution) (m : TermMap) (i : ℕ) → b.0 ≡ b0.0 → b.1 ++ unhidden first (drop i m) ≡ b0.1 ++ unhidden first m
      → length m ≤ i → b ≡ both b0.0 (b0.1 ++ unhidden first m)
  unfolding unhidden
  unhidden-end b0 b m i e h l =
      let f : b.1 ≡ b0.1 ++ unhidden first m = sym (append-nil b.1) ∙ ap (λ z. b.1 ++ unhidden first z) (sym (drop_all i m l)) ∙ h in
      λ k. both (e k) (f k)

-- the entries under a second substitution: what is left can be applied
pub record Under (g : Substitution) (m : TermMap) (b0 b : Substitution) (i : ℕ) : Type 0 where
  pub types : b.0 ≡ b0.0
  pub terms : b.1 ++ under g (drop i m) ≡ b0.1 ++ under g m
  pub rest : Values (CanApply g) (drop i m)

module _ (g : Substitution) (m : TermMap) (b0 : Substitution) where
  pub under-begun : Values (CanApply g) m → Under g m b0 b0 0
  under-begun k = record { types = refl; terms = refl; rest = k }

  pub under-can : (b : Substitution) (i : ℕ) (x : Name) (v : Term) → Under g m b0 b i → slice_get m i ≡ Some (x, v) → CanApply g v
  unfolding Values
  under-can b i x v u h = let all : Values (CanApply g) ((x, v) ∷ drop (i + 1) m) = subst (Values (CanApply g)) (drop-at m i (x, v) h) u.rest in all.0

  pub under-on : (b more : Substitution) (i : ℕ) (x : Name) (v w : Term) → Under g m b0 b i → slice_get m i ≡ Some (x, v) → w ≡ applied g v
      → more ≡ both b.0 (b.1 ++ (x, w) ∷ []) → Under g m b0 more (i + 1)
  unfolding Values under
  under-on b more i x v w u h e q =
      let d = drop-at m i (x, v) h in
      let all : Values (CanApply g) ((x, v) ∷ drop (i + 1) m) = subst (Values (CanApply g)) d u.rest in
      let q' : more ≡ both b.0 (b.1 ++ (x, applied g v) ∷ []) = q ∙ (λ k. both b.0 (b.1 ++ (x, e k) ∷ [])) in
      record {
        types = ap (λ z. z.0) q' ∙ u.types;
        terms = ap (λ z. z.1 ++ under g (drop (i + 1) m)) q' ∙ append_assoc b.1 ((x, applied g v) ∷ []) (under g (drop (i + 1) m))
            ∙ ap (λ z. b.1 ++ under g z) (sym d) ∙ u.terms;
        rest = all.1;
      }

  pub under-end : (b : Substitution) (i : ℕ) → Under g m b0 b i → length m ≤ i → b ≡ both b0.0 (b0.1 ++ under g m)
  unfolding under
  under-end b i u l =
      let f : b.1 ≡ b0.1 ++ under g m = sym (append-nil b.1) ∙ ap (λ z. b.1 ++ under g z) (sym (drop_all i m l)) ∙ u.terms in
      let e = u.types in
      λ k. both (e k) (f k)
