-- Lists of entries no two of which have one name.
use Rattle.std.proofs.Common.{◌≡◌, ℕ, Bool, true, false, true≢false, if◌then◌else◌, List, [], ◌∷◌, ◌++◌, None, Some, refl, sym, ap, ◌∙◌, ◌+◌, ◌≤◌, length, drop, slice_get}
use Rattle.std.proofs.lemmas.List.{append_assoc, append-nil, drop_more, drop_all}
use Rattle.std.proofs.lemmas.Option.{slice_get_within, get_or_from_slice_get}
use Rattle.std.specs.List.{IsDistinct, AllByRecursion}
use Rattle.std.specs.Map.{keys_of}
use Rattle.iv_text.specs.declared.name.Name.{Name}
use Rattle.iv_text.specs.Name.{same_name, same_name-equiv}
use Rattle.iv_text.proofs.Same.{same_name-true, same_name-same}
use Rattle.iv_map.specs.NameMap.{Entries, look}

-- the entry at an index, and those behind it
drop-at : {X : Type 0} (s : List X) (i : ℕ) (e : X) → slice_get s i ≡ Some e → drop i s ≡ e ∷ drop (i + 1) s
drop-at s i e h = drop_more s i e (slice_get_within s i e h) ∙ ap (λ z. z ∷ drop (i + 1) s) (get_or_from_slice_get s i e e h)

module _ {V : Type 0} where
  all-one : (x : Name) (xs ys : Entries V) (y : Name × V) → AllByRecursion (λ m. same_name x m ≡ false) (keys_of (xs ++ y ∷ ys)) → same_name x y.0 ≡ false
  all-one x [] ys y h = h.0
  all-one x (e ∷ xs) ys y h = all-one x xs ys y h.1

  none-before : (xs ys : Entries V) (x : Name) (v : V) → IsDistinct same_name (keys_of (xs ++ (x, v) ∷ ys)) → look xs x ≡ None
  unfolding IsDistinct
  none-before [] ys x v h = refl
  none-before (e ∷ xs) ys x v h =
      let other : same_name x e.0 ≡ false = same_name-equiv.symm x e.0 ∙ all-one e.0 xs ys (x, v) h.0 in
      rw other (none-before xs ys x v h.1)

  -- where names differ, a name that comes behind some entries is new there
  pub new-name : (out all ys : Entries V) (x y : Name) (v : V) → out ++ (x, v) ∷ ys ≡ all → IsDistinct same_name (keys_of all) → y ≡ x → look out y ≡ None
  new-name out all ys x y v whole d same = rw same (none-before out ys x v (rw (← whole) at d))

  -- a copy grows entry by entry
  pub copied-name : (copy s : Entries V) (i : ℕ) (e : Name × V) (x : Name) → slice_get s i ≡ Some e → copy ++ drop i s ≡ s → x ≡ e.0
      → IsDistinct same_name (keys_of s) → look copy x ≡ None
  copied-name copy s i e x h k same d = new-name copy s (drop (i + 1) s) e.0 x e.1 (ap (λ z. copy ++ z) (sym (drop-at s i e h)) ∙ k) d same

  pub copied-on : (old new s : Entries V) (i : ℕ) (e : Name × V) → slice_get s i ≡ Some e → old ++ drop i s ≡ s → new ≡ old ++ e ∷ []
      → new ++ drop (i + 1) s ≡ s
  copied-on old new s i e h k n =
      ap (λ z. z ++ drop (i + 1) s) n ∙ append_assoc old (e ∷ []) (drop (i + 1) s) ∙ ap (λ z. old ++ z) (sym (drop-at s i e h)) ∙ k

  pub copied-end : (copy s : Entries V) (i : ℕ) → copy ++ drop i s ≡ s → length s ≤ i → copy ≡ s
  copied-end copy s i h l = sym (append-nil copy) ∙ ap (λ z. copy ++ z) (sym (drop_all i s l)) ∙ h

-- whether a name is among some, and the names that aren't
abbrev pub among : List Name → Name → Bool
among [] x = false
among (y ∷ ys) x = if same_name x y then true else among ys x

abbrev pub others : List Name → List Name → List Name
others xs [] = []
others xs (y ∷ ys) = if among xs y then others xs ys else y ∷ others xs ys

abbrev IsNew : Name → List Name → Type 0
IsNew x ys = AllByRecursion (λ m. same_name x m ≡ false) ys

new-append : (x : Name) (xs ys : List Name) → IsNew x xs → IsNew x ys → IsNew x (xs ++ ys)
new-append x [] ys h k = k
new-append x (y ∷ xs) ys h k = (h.0, new-append x xs ys h.1 k)

new-others_by : (x : Name) (xs ys : List Name) (y : Name) (b : Bool) → same_name x y ≡ false → IsNew x (others xs ys) → IsNew x (if b then others xs ys else y ∷ others xs ys)
new-others_by x xs ys y true h k = k
new-others_by x xs ys y false h k = (h, k)

new-others : (x : Name) (xs ys : List Name) → IsNew x ys → IsNew x (others xs ys)
new-others x xs [] h = tt
new-others x xs (y ∷ ys) h = new-others_by x xs ys y (among xs y) h.0 (new-others x xs ys h.1)

others-apart_by : (xs ys : List Name) (y : Name) (b : Bool) → IsNew y (others xs ys) → IsDistinct same_name (others xs ys)
    → IsDistinct same_name (if b then others xs ys else y ∷ others xs ys)
unfolding IsDistinct
others-apart_by xs ys y true h k = k
others-apart_by xs ys y false h k = (h, k)

others-apart : (xs ys : List Name) → IsDistinct same_name ys → IsDistinct same_name (others xs ys)
unfolding IsDistinct
others-apart xs [] h = tt
others-apart xs (y ∷ ys) h = others-apart_by xs ys y (among xs y) (new-others y xs ys h.0) (others-apart xs ys h.1)

-- a name is among no others
apart-from : (xs : List Name) (x y : Name) (v : Bool) → among xs x ≡ true → among xs y ≡ false → same_name x y ≡ v → same_name x y ≡ false
apart-from xs x y false h k e = e
apart-from xs x y true h k e = absurd (let bad : true ≡ false = sym h ∙ ap (among xs) (same_name-true x y e) ∙ k in true≢false bad)

new-behind_by : (xs ys : List Name) (x y : Name) (b : Bool) → among xs x ≡ true → among xs y ≡ b → IsNew x (others xs ys)
    → IsNew x (if b then others xs ys else y ∷ others xs ys)
new-behind_by xs ys x y true h k n = n
new-behind_by xs ys x y false h k n = (apart-from xs x y (same_name x y) h k refl, n)

new-behind : (xs ys : List Name) (x : Name) → among xs x ≡ true → IsNew x (others xs ys)
new-behind xs [] x h = tt
new-behind xs (y ∷ ys) x h = new-behind_by xs ys x y (among xs y) h refl (new-behind xs ys x h)

among-more : (zs : List Name) (z x : Name) (b : Bool) → among zs x ≡ true → (if b then true else among zs x) ≡ true
among-more zs z x true h = refl
among-more zs z x false h = h

apart-behind : (xs ys zs : List Name) → ((x : Name) → among zs x ≡ true → among xs x ≡ true) → IsDistinct same_name zs → IsDistinct same_name ys
    → IsDistinct same_name (zs ++ others xs ys)
unfolding IsDistinct
apart-behind xs ys [] h d e = others-apart xs ys e
apart-behind xs ys (z ∷ zs) h d e = (
  new-append z zs (others xs ys) d.0 (new-behind xs ys z (h z (rw (same_name-same z) refl))),
  apart-behind xs ys zs (λ x k. h x (among-more zs z x (same_name x z) k)) d.1 e,
)

-- some names and then others differ
pub apart-others : (xs ys : List Name) → IsDistinct same_name xs → IsDistinct same_name ys → IsDistinct same_name (xs ++ others xs ys)
apart-others xs ys d e = apart-behind xs ys xs (λ x h. h) d e
