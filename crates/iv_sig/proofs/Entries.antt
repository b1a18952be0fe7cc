-- Entries of a map whose keys are the names that its values hold.
use Rattle.std.proofs.Common.{◌≡◌, ℕ, Bool, true, false, cond, List, [], ◌∷◌, ◌++◌, Option, None, Some, refl, sym, ap, ◌∙◌, map, ◌+◌, ◌≤◌, length, drop, slice_get}
use Rattle.std.proofs.lemmas.List.{append_assoc, append-nil, drop_more, drop_all}
use Rattle.std.proofs.lemmas.Option.{slice_get_within, get_or_from_slice_get}
use Rattle.std.specs.Cmp.Lexicographic.{nat_list_eq_equiv}
use Rattle.std.specs.List.{IsDistinct, AllByRecursion}
use Rattle.std.specs.Map.{lookup, keys_of, values_of}
use Rattle.std.specs.Option.{option_map}
use Rattle.std.specs.Str.{bytes_eq}
use Rattle.iv_sig.specs.Table.{look, NamesAreKeys}

module _ {K V : Type 0} (letters : K → List ℕ) where
  found-by : (e : K × (List ℕ × V)) (l : Option V) (m : Option (List ℕ × V)) (b : Bool) → l ≡ option_map (λ x. x.1) m
      → cond b (Some e.1.1) l ≡ option_map (λ x. x.1) (cond b (Some e.1) m)
  found-by e l m true h = refl
  found-by e l m false h = h

  -- the value that the map finds is what its name has
  pub look-found : (es : List (K × (List ℕ × V))) (q : List ℕ) → NamesAreKeys letters es → look (values_of es) q ≡ option_map (λ e. e.1) (lookup (λ k. bytes_eq q (letters k)) es)
  look-found [] q h = refl
  look-found (e ∷ es) q h =
      ap (λ n. cond (bytes_eq q n) (Some e.1.1) (look (values_of es) q)) (sym h.0) ∙ found-by e _ _ (bytes_eq q (letters e.0)) (look-found es q h.1)

  pub look-none : (es : List (K × (List ℕ × V))) (q : List ℕ) → NamesAreKeys letters es → None ≡ lookup (λ k. bytes_eq q (letters k)) es → None ≡ look (values_of es) q
  look-none es q h m = ap (option_map (λ e. e.1)) m ∙ sym (look-found es q h)

  pub look-some : (es : List (K × (List ℕ × V))) (q : List ℕ) (e : List ℕ × V) → NamesAreKeys letters es → Some e ≡ lookup (λ k. bytes_eq q (letters k)) es → Some e.1 ≡ look (values_of es) q
  look-some es q e h m = ap (option_map (λ x. x.1)) m ∙ sym (look-found es q h)

  none-by : (r : Option (List ℕ × V)) → option_map (λ x. x.1) r ≡ None → r ≡ None
  none-by None g = refl
  none-by (Some e) g = absurd (let bad : ⊥ = cc in bad)

  -- a name that has nothing is no key
  absent : (es : List (K × (List ℕ × V))) (q : List ℕ) → NamesAreKeys letters es → look (values_of es) q ≡ None → lookup (λ k. bytes_eq q (letters k)) es ≡ None
  absent es q h none = none-by _ (sym (look-found es q h) ∙ none)

  -- the key of a name that has nothing is new
  pub new-key : (es : List (K × (List ℕ × V))) (k : K) (n : List ℕ) → NamesAreKeys letters es → letters k ≡ n → look (values_of es) n ≡ None → lookup (λ x. bytes_eq (letters k) (letters x)) es ≡ None
  new-key es k n h same none = rw same (absent es n h none)

  -- one entry more, with its key as a name
  pub keyed-push : (es : List (K × (List ℕ × V))) (k : K) (n : List ℕ) (v : V) → NamesAreKeys letters es → letters k ≡ n → NamesAreKeys letters (es ++ (k, (n, v)) ∷ [])
  keyed-push [] k n v h same = (same, tt)
  keyed-push (e ∷ es) k n v h same = (h.0, keyed-push es k n v h.1 same)

  -- all entries but the last
  pub keyed-front : (es fs : List (K × (List ℕ × V))) → NamesAreKeys letters (es ++ fs) → NamesAreKeys letters es
  keyed-front [] fs h = tt
  keyed-front (e ∷ es) fs h = (h.0, keyed-front es fs h.1)

  -- the names are what the keys say
  pub names : (es : List (K × (List ℕ × V))) → NamesAreKeys letters es → keys_of (values_of es) ≡ map letters (keys_of es)
  names [] h = refl
  names (e ∷ es) h = rw (h.0, names es h.1) refl

module _ {K : Type 0} (letters : K → List ℕ) where
  all-letters : (n : List ℕ) (ks : List K) → AllByRecursion (λ k. bytes_eq n (letters k) ≡ false) ks → AllByRecursion (λ m. bytes_eq n m ≡ false) (map letters ks)
  all-letters n [] h = tt
  all-letters n (k ∷ ks) h = (h.0, all-letters n ks h.1)

  distinct-letters : (ks : List K) → IsDistinct (λ x y. bytes_eq (letters x) (letters y)) ks → IsDistinct bytes_eq (map letters ks)
  unfolding IsDistinct
  distinct-letters [] h = tt
  distinct-letters (k ∷ ks) h = (all-letters (letters k) ks h.0, distinct-letters ks h.1)

  -- where no two keys are the same, no two names are
  pub names_differ : {V : Type 0} (es : List (K × (List ℕ × V))) → NamesAreKeys letters es → IsDistinct (λ x y. bytes_eq (letters x) (letters y)) (keys_of es) → IsDistinct bytes_eq (keys_of (values_of es))
  names_differ es h d = rw (names letters es h) (distinct-letters (keys_of es) d)

module _ {V : Type 0} where
  all-one : (n : List ℕ) (xs ys : List (List ℕ × V)) (y : List ℕ × V) → AllByRecursion (λ m. bytes_eq n m ≡ false) (keys_of (xs ++ y ∷ ys)) → bytes_eq n y.0 ≡ false
  all-one n [] ys y h = h.0
  all-one n (x ∷ xs) ys y h = all-one n xs ys y h.1

  -- where names differ, what stands in front of an entry has nothing for its name
  pub none-before : (xs ys : List (List ℕ × V)) (y : List ℕ × V) → IsDistinct bytes_eq (keys_of (xs ++ y ∷ ys)) → look xs y.0 ≡ None
  unfolding IsDistinct
  none-before [] ys y h = refl
  none-before (x ∷ xs) ys y h =
      let other : bytes_eq y.0 x.0 ≡ false = nat_list_eq_equiv.symm y.0 x.0 ∙ all-one x.0 xs ys y h.0 in
      rw other (none-before xs ys y h.1)

  -- the entry at an index, and those behind it
  drop-at : (s : List (List ℕ × V)) (i : ℕ) (e : List ℕ × V) → slice_get s i ≡ Some e → drop i s ≡ e ∷ drop (i + 1) s
  drop-at s i e h = drop_more s i e (slice_get_within s i e h) ∙ ap (λ z. z ∷ drop (i + 1) s) (get_or_from_slice_get s i e e h)

  -- a copy grows entry by entry
  pub copied-name : (copy s : List (List ℕ × V)) (i : ℕ) (e : List ℕ × V) (n : List ℕ) → slice_get s i ≡ Some e → copy ++ drop i s ≡ s → n ≡ e.0
      → IsDistinct bytes_eq (keys_of s) → look copy n ≡ None
  copied-name copy s i e n h k same d =
      let whole : copy ++ e ∷ drop (i + 1) s ≡ s = ap (λ z. copy ++ z) (sym (drop-at s i e h)) ∙ k in
      rw same (none-before copy (drop (i + 1) s) e (rw (← whole) at d))

  pub copied-on : (old new s : List (List ℕ × V)) (i : ℕ) (e : List ℕ × V) → slice_get s i ≡ Some e → old ++ drop i s ≡ s → new ≡ old ++ e ∷ []
      → new ++ drop (i + 1) s ≡ s
  copied-on old new s i e h k n =
      ap (λ z. z ++ drop (i + 1) s) n ∙ append_assoc old (e ∷ []) (drop (i + 1) s) ∙ ap (λ z. old ++ z) (sym (drop-at s i e h)) ∙ k

  pub copied-end : (copy s : List (List ℕ × V)) (i : ℕ) → copy ++ drop i s ≡ s → length s ≤ i → copy ≡ s
  copied-end copy s i h l = sym (append-nil copy) ∙ ap (λ z. copy ++ z) (sym (drop_all i s l)) ∙ h
