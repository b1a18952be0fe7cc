-- Numbers of digits.
use Rattle.std.proofs.Common.{◌≡◌, ℕ, suc, ◌+◌, ◌-◌, ◌*◌, ◌<◌, ◌≤◌, List, [], ◌∷◌, length, get_or, drop, true, false, refl, ap, sym, ◌∙◌, arith, drop-cons}
use Rattle.std.specs.Prelude.{Some, None, nat_lt}
use Rattle.std.proofs.lemmas.List.{drop_all}
use Rattle.std.proofs.lemmas.Bool.Decides.{nat_tests}
use Rattle.iv_outer.specs.Classify.{value_from, number_of}

grows : (v : ℕ) (cs : List ℕ) → v ≤ value_from v cs
grows v [] = omega arith
grows v (c ∷ cs) = let h : v * 10 + (c - 48) ≤ value_from (v * 10 + (c - 48)) cs = grows (v * 10 + (c - 48)) cs in omega (arith, h)

above : (n : ℕ) → 4294967295 < n → nat_lt n 4294967296 ≡ false
above n h = grind (arith, nat_tests)

below : (n : ℕ) → n < 4294967296 → nat_lt n 4294967296 ≡ true
below n h = grind (arith, nat_tests)

pub too_great : (all : List ℕ) (i v d c : ℕ) → i < length all → c ≡ get_or all i c → value_from v (drop i all) ≡ value_from 0 all → d ≡ c - 48 → 4294967295 < v * 10 + d → None ≡ number_of all
unfolding number_of
too_great all i v d c h is so_far e big =
    let head : value_from (v * 10 + (get_or all i c - 48)) (drop (suc i) all) ≡ value_from 0 all = sym (ap (value_from v) (drop-cons all i c h)) ∙ so_far in
    let low : v * 10 + (get_or all i c - 48) ≤ value_from (v * 10 + (get_or all i c - 48)) (drop (suc i) all) = grows (v * 10 + (get_or all i c - 48)) (drop (suc i) all) in
    let great : 4294967295 < value_from 0 all = omega (arith, head, low, is, e, big) in
    rw (above (value_from 0 all) great) refl

pub value_is : (all : List ℕ) (i v : ℕ) → length all ≤ i → value_from v (drop i all) ≡ value_from 0 all → v < 4294967296 → Some v ≡ number_of all
unfolding number_of
value_is all i v h so_far small =
    let same : v ≡ value_from 0 all = sym (ap (value_from v) (drop_all i all h)) ∙ so_far in
    let low : value_from 0 all < 4294967296 = omega (arith, same, small) in
    rw (below (value_from 0 all) low) (ap (λ n. Some n) same)
