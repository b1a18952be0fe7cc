-- The tests of sameness of texts and names decide equality.
use Rattle.std.proofs.Common.{◌≡◌, ℕ, List, eqb, true, refl}
use Rattle.std.proofs.lemmas.Bool.{and_parts, and_from}
use Rattle.std.proofs.lemmas.Bool.Decides.{Decides-eqb}
use Rattle.std.specs.Str.{bytes_eq}
use Rattle.std.proofs.lemmas.Slice.Eq.{bytes_eq-Decides}
use Rattle.iv_text.specs.declared.name.Name.{Name}
use Rattle.iv_text.specs.Name.{same_name}

pub same_text-true : (a b : List ℕ) → bytes_eq a b ≡ true → a ≡ b
same_text-true a b h = (bytes_eq-Decides a b).0 h

pub same_text-same : (a : List ℕ) → bytes_eq a a ≡ true
same_text-same a = (bytes_eq-Decides a a).1 refl

pub same_name-true : (x y : Name) → same_name x y ≡ true → x ≡ y
same_name-true x y h =
    let p : (bytes_eq x.text y.text ≡ true) × (eqb x.number y.number ≡ true) = and_parts _ _ h in
    let e : x.text ≡ y.text = same_text-true _ _ p.0 in
    let f : x.number ≡ y.number = (Decides-eqb _ _).0 p.1 in
    λ i. record { text = e i; number = f i }

pub same_name-same : (x : Name) → same_name x x ≡ true
same_name-same x = and_from _ _ (same_text-same x.text) ((Decides-eqb x.number x.number).1 refl)
