-- The machine's theorems and names, when one more theorem is kept.
use Rattle.std.proofs.Common.{◌≡◌, ℕ, Bool, true, false, ◌||◌, List, [], ◌∷◌, ◌++◌, map, drop, length, get_or, refl, sym, ap, ◌∙◌, ◌<◌, arith}
use Rattle.std.specs.Prelude.{Some}
use Rattle.std.specs.Str.{bytes_eq}
use Rattle.iv_kernel.specs.declared.theorems.NamedThm.{NamedThm}
use Rattle.iv_run.specs.Machine.{is_taken, is_named, is_pure, other_import}
use Rattle.iv_run.specs.Closed.{IsClosed}
use Rattle.iv_run.specs.Sound.{AllClosed, seen}
use Rattle.iv_run.proofs.Lists.{drop-item}

pub AllClosed-push : (ns : List NamedThm) (n : NamedThm) → AllClosed ns → IsClosed n.thm → AllClosed (ns ++ n ∷ [])
AllClosed-push [] n h k = (k, tt)
AllClosed-push (m ∷ ms) n h k = (h.0, AllClosed-push ms n h.1 k)

or-last : (a b : Bool) → (a || b) ≡ (b || (a || false))
or-last true true = refl
or-last true false = refl
or-last false true = refl
or-last false false = refl

or-regroup : (a b c : Bool) → (a || (b || c)) ≡ ((a || b) || c)
or-regroup true b c = refl
or-regroup false b c = refl

pub taken-push : (q : List ℕ) (ns : List NamedThm) (n : NamedThm) → is_taken (map seen (ns ++ n ∷ [])) q ≡ (is_taken (map seen ns) q || (is_named q n.name || false))
taken-push q [] n = refl
taken-push q (m ∷ ms) n = ap (λ b. is_named q m.name || b) (taken-push q ms n) ∙ or-regroup (is_named q m.name) (is_taken (map seen ms) q) (is_named q n.name || false)

-- the names with one more, and the theorems with one more
pub names-push : (q label : List ℕ) (had : Bool) (ns : List NamedThm) (n : NamedThm) → had ≡ is_taken (map seen ns) q → n.name ≡ Some label
    → (bytes_eq q label || had) ≡ is_taken (map seen (ns ++ n ∷ [])) q
names-push q label had ns n e is =
    ap (λ b. bytes_eq q label || b) e ∙ or-last (bytes_eq q label) (is_taken (map seen ns) q)
    ∙ ap (λ x. is_taken (map seen ns) q || (is_named q x || false)) (sym is) ∙ sym (taken-push q ns n)

-- an import other than `Pure`, behind some that are `Pure`
pub other-here : (names : List (List ℕ)) (i : ℕ) (name : List ℕ) → i < length names → name ≡ get_or names i name → is_pure name ≡ false
    → other_import (drop i names) ≡ other_import names → Some name ≡ other_import names
other-here names i name lt is other h =
    let here : other_import (drop i names) ≡ Some name = rw (drop-item names name i (omega arith) is, other) refl in
    sym here ∙ h
