-- Sets of classes.
use Rattle.std.proofs.Common.{◌≡◌, ℕ, zero, suc, List, [], ◌∷◌, ◌++◌, Bool, true, false, refl, inl, inr}
use Rattle.std.specs.Prelude.{Option, Some, None, ◌⊎◌, ◌&&◌, ◌||◌}
use Rattle.std.specs.List.{list_any}
use Rattle.iv_recogniser.specs.declared.class.Class.{Class}
use Rattle.iv_recogniser.specs.Class.{same_class}

-- the item at an index
abbrev pub nth : {A : Type 0} → ℕ → List A → Option A
nth n [] = None
nth zero (x ∷ xs) = Some x
nth (suc n) (x ∷ xs) = nth n xs

-- a class is one of these
abbrev pub Among : Class → List Class → Type 0
Among c cs = list_any (same_class c) cs ≡ true

pub and_left : (a b : Bool) → (a && b) ≡ true → a ≡ true
and_left true b h = refl
and_left false b h = h

pub and_right : (a b : Bool) → (a && b) ≡ true → b ≡ true
and_right true b h = h
and_right false b h = let bad : false ≡ true = h in cc

pub or_parts : (a b : Bool) → (a || b) ≡ true → (a ≡ true) ⊎ (b ≡ true)
or_parts true b h = inl refl
or_parts false b h = inr h

pub or_left : (a b : Bool) → a ≡ true → (a || b) ≡ true
or_left true b h = refl
or_left false b h = let bad : false ≡ true = h in cc

pub or_right : (a b : Bool) → b ≡ true → (a || b) ≡ true
or_right true b h = refl
or_right false b h = h

pub has_only : (o c : Class) → same_class c o ≡ true → Among c (o ∷ [])
has_only o c h = or_left (same_class c o) false h

pub among_parts : (c : Class) (xs ys : List Class) → Among c (xs ++ ys) → Among c xs ⊎ Among c ys
among_parts c [] ys h = inr h
among_parts c (x ∷ xs) ys h =
    elim (or_parts (same_class c x) (list_any (same_class c) (xs ++ ys)) h) [
      | inl e ↦ inl (or_left (same_class c x) (list_any (same_class c) xs) e)
      | inr e ↦ elim (among_parts c xs ys e) [ inl i ↦ inl (or_right (same_class c x) (list_any (same_class c) xs) i) | inr i ↦ inr i ]
    ]

pub among_left : (c : Class) (xs ys : List Class) → Among c xs → Among c (xs ++ ys)
among_left c [] ys h = let bad : false ≡ true = h in cc
among_left c (x ∷ xs) ys h =
    elim (or_parts (same_class c x) (list_any (same_class c) xs) h) [
      | inl e ↦ or_left (same_class c x) (list_any (same_class c) (xs ++ ys)) e
      | inr e ↦ or_right (same_class c x) (list_any (same_class c) (xs ++ ys)) (among_left c xs ys e)
    ]

pub among_right : (c : Class) (xs ys : List Class) → Among c ys → Among c (xs ++ ys)
among_right c [] ys h = h
among_right c (x ∷ xs) ys h = or_right (same_class c x) (list_any (same_class c) (xs ++ ys)) (among_right c xs ys h)
