-- Two classes of one number are the same.
use Rattle.std.proofs.Common.{◌≡◌, List, [], ◌∷◌, Bool, true, false, ap, sym, ◌∙◌, inl, inr}
use Rattle.std.specs.Prelude.{Some}
use Rattle.std.specs.List.{list_any, list_all}
use Rattle.std.proofs.lemmas.Bool.{eqb-true}
use Rattle.iv_recogniser.specs.declared.class.Class.{Class}
use Rattle.iv_recogniser.specs.Class.{number, classes, same_class}
use Rattle.iv_recogniser.proofs.Sets.{nth, Among, or_parts, and_left, and_right}
use Rattle.iv_recogniser.proofs.Numbers.{number_at}

some_same : (a b : Class) → Some a ≡ Some b → a ≡ b
some_same a b e = cc

pub same_is : (a b : Class) → same_class a b ≡ true → a ≡ b
same_is a b h =
    let e : number a ≡ number b = eqb-true (number a) (number b) h in
    some_same a b (sym (number_at a) ∙ ap (λ n. nth n classes) e ∙ number_at b)

-- what holds of all of some classes holds of each
pub all_among : (P : Class → Bool) (c : Class) (xs : List Class) → Among c xs → list_all P xs ≡ true → P c ≡ true
all_among P c [] h a = let bad : false ≡ true = h in cc
all_among P c (x ∷ xs) h a =
    elim (or_parts (same_class c x) (list_any (same_class c) xs) h) [
      | inl e ↦ let is : c ≡ x = same_is c x e in ap P is ∙ and_left (P x) (list_all P xs) a
      | inr i ↦ all_among P c xs i (and_right (P x) (list_all P xs) a)
    ]
