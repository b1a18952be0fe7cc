-- A name put into an ordered set of names.
use Rattle.std.proofs.Common.{◌≡◌, ℕ, Bool, true, false, ◌||◌, List, [], ◌∷◌, refl, sym, ap, ◌∙◌}
use Rattle.std.specs.List.{list_any}
use Rattle.std.specs.Str.{bytes_eq}
use Rattle.std.specs.Ordering.{nat_cmp, is_eq, match_ordering}
use Rattle.std.specs.declared.cmp.Ordering.{Ordering}
use Rattle.std.specs.declared.cmp.Ordering.TheVariants.{Less, Equal, Greater}
use Rattle.std.specs.BTreeMap.{is_at}
use Rattle.std.specs.BTreeSet.{insert_key}
use Rattle.std.specs.Cmp.Lexicographic.{slice_cmp}
use Rattle.std.proofs.lemmas.Map.Text.{is_eq-slice_cmp}
use Rattle.std.proofs.lemmas.Slice.Eq.{bytes_eq-Decides}

-- the same test, as it is written for an ordered set and in the definitions
pub any_at : {K : Type 0} (text : K → List ℕ) (q : List ℕ) (ks : List K)
    → list_any (is_at (λ k. slice_cmp nat_cmp q (text k))) ks ≡ list_any (λ k. bytes_eq q (text k)) ks
any_at text q [] = refl
any_at text q (k ∷ ks) = λ i. is_eq-slice_cmp q (text k) i || any_at text q ks i

or-same : (a b : Bool) → (a || b) ≡ (a || (a || b))
or-same true b = refl
or-same false b = refl

or-swap : (a b c : Bool) → (a || (b || c)) ≡ (b || (a || c))
or-swap true true c = refl
or-swap true false c = refl
or-swap false true c = refl
or-swap false false c = refl

-- what an insertion in order leaves: the key, and what was there
pub any-insert : {K : Type 0} (text : K → List ℕ) (q : List ℕ) (ks : List K) (key : K)
    → list_any (λ k. bytes_eq q (text k)) (insert_key (λ x y. slice_cmp nat_cmp (text x) (text y)) ks key)
    ≡ (bytes_eq q (text key) || list_any (λ k. bytes_eq q (text k)) ks)
any-insert text q [] key = refl
any-insert {K} text q (x ∷ xs) key = cases (slice_cmp nat_cmp (text key) (text x)) (is_eq-slice_cmp (text key) (text x)) (any-insert text q xs key)
  where
    more : List K
    more = insert_key (λ x y. slice_cmp nat_cmp (text x) (text y)) xs key

    cases : (o : Ordering) → is_eq o ≡ bytes_eq (text key) (text x) → list_any (λ k. bytes_eq q (text k)) more ≡ (bytes_eq q (text key) || list_any (λ k. bytes_eq q (text k)) xs)
        → list_any (λ k. bytes_eq q (text k)) (match_ordering o (key ∷ x ∷ xs) (x ∷ xs) (x ∷ more)) ≡ (bytes_eq q (text key) || (bytes_eq q (text x) || list_any (λ k. bytes_eq q (text k)) xs))
    cases Less e h = refl
    cases Equal e h =
        let same : text key ≡ text x = (bytes_eq-Decides (text key) (text x)).0 (sym e) in
        or-same (bytes_eq q (text x)) (list_any (λ k. bytes_eq q (text k)) xs) ∙ ap (λ t. bytes_eq q t || (bytes_eq q (text x) || list_any (λ k. bytes_eq q (text k)) xs)) (sym same)
    cases Greater e h = ap (λ b. bytes_eq q (text x) || b) h ∙ or-swap (bytes_eq q (text x)) (bytes_eq q (text key)) (list_any (λ k. bytes_eq q (text k)) xs)
