-- No two entries of what loops over a substitution's terms write have one name.
use Rattle.std.proofs.Common.{◌≡◌, ℕ, Bool, true, false, if◌then◌else◌, List, [], ◌∷◌, ◌++◌, None, Some, is_some, ◌+◌, drop, slice_get, refl, sym, ◌∙◌, ap}
use Rattle.std.specs.List.{IsDistinct}
use Rattle.std.specs.Map.{keys_of}
use Rattle.std.proofs.lemmas.List.{map-append}
use Rattle.iv_text.specs.declared.name.Name.{Name}
use Rattle.iv_term.specs.declared.term.Term.{Term}
use Rattle.iv_text.specs.Name.{same_name}
use Rattle.iv_map.specs.NameMap.{look}
use Rattle.iv_map.proofs.Entries.{new-name, among, others, apart-others}
use Rattle.iv_subst.proofs.Laws.Entries.{drop-at}
use Rattle.iv_put.specs.Subst.{TermMap, Substitution, value_of, has_value, applied, under, unhidden, composed}
use Rattle.iv_put.proofs.Facts.Values.{has-value}
use Rattle.iv_put.proofs.Facts.Loops.{Under}

value-look : (m : TermMap) (y : Name) → value_of m y ≡ look m y
unfolding value_of
value-look [] y = refl
value-look (e ∷ m) y = ap (λ o. if same_name y e.0 then Some e.1 else o) (value-look m y)

has-none : (m : TermMap) (y : Name) → look m y ≡ None → has_value m y ≡ false
has-none m y h = sym (has-value m y) ∙ ap is_some (value-look m y ∙ h)

keys-under : (g : Substitution) (m : TermMap) → keys_of (under g m) ≡ keys_of m
unfolding under
keys-under g [] = refl
keys-under g (e ∷ m) = ap (λ ks. e.0 ∷ ks) (keys-under g m)

has-among : (m : TermMap) (y : Name) → has_value m y ≡ among (keys_of m) y
unfolding has_value
has-among [] y = refl
has-among (e ∷ m) y = ap (λ b. if same_name y e.0 then true else b) (has-among m y)

keys-kept : (e : Name × Term) (m : TermMap) (ks : List Name) (b : Bool) → keys_of m ≡ ks → keys_of (if b then m else e ∷ m) ≡ (if b then ks else e.0 ∷ ks)
keys-kept e m ks true h = h
keys-kept e m ks false h = ap (λ z. e.0 ∷ z) h

keys-unhidden : (first m : TermMap) → keys_of (unhidden first m) ≡ others (keys_of first) (keys_of m)
unfolding unhidden
keys-unhidden first [] = refl
keys-unhidden first (e ∷ m) =
    rw (has-among first e.0) (keys-kept e (unhidden first m) (others (keys_of first) (keys_of m)) (among (keys_of first) e.0) (keys-unhidden first m))

pub apart-under : (g : Substitution) (m : TermMap) → IsDistinct same_name (keys_of m) → IsDistinct same_name (keys_of (under g m))
apart-under g m d = rw (keys-under g m) d

pub apart-composed : (f g : Substitution) → IsDistinct same_name (keys_of f.1) → IsDistinct same_name (keys_of g.1) → IsDistinct same_name (keys_of (composed f g).1)
apart-composed f g d e =
    let keys : keys_of (composed f g).1 ≡ keys_of f.1 ++ others (keys_of f.1) (keys_of g.1) =
    map-append (λ z. z.0) (under g f.1) (unhidden f.1 g.1) ∙ (λ i. keys-under g f.1 i ++ keys-unhidden f.1 g.1 i) in
    rw keys (apart-others (keys_of f.1) (keys_of g.1) d e)

pub under-new : (g : Substitution) (m : TermMap) (b0 b : Substitution) (i : ℕ) (x y : Name) (v : Term) → Under g m b0 b i → slice_get m i ≡ Some (x, v)
    → IsDistinct same_name (keys_of (b0.1 ++ under g m)) → y ≡ x → has_value b.1 y ≡ false
unfolding under
under-new g m b0 b i x y v u h d e =
    has-none b.1 y
    (new-name b.1 (b0.1 ++ under g m) (under g (drop (i + 1) m)) x y (applied g v) (ap (λ z. b.1 ++ under g z) (sym (drop-at m i (x, v) h)) ∙ u.terms) d e)

pub unhidden-new : (first out0 out m : TermMap) (i : ℕ) (x y : Name) (v : Term) → slice_get m i ≡ Some (x, v)
    → out ++ unhidden first (drop i m) ≡ out0 ++ unhidden first m → has_value first x ≡ false
    → IsDistinct same_name (keys_of (out0 ++ unhidden first m)) → y ≡ x → has_value out y ≡ false
unfolding unhidden
unhidden-new first out0 out m i x y v h k n d e =
    let step : unhidden first ((x, v) ∷ drop (i + 1) m) ≡ (x, v) ∷ unhidden first (drop (i + 1) m) = rw n refl in
    has-none out y
    (new-name out (out0 ++ unhidden first m) (unhidden first (drop (i + 1) m)) x y v
    (ap (λ z. out ++ z) (sym (ap (unhidden first) (drop-at m i (x, v) h) ∙ step)) ∙ k) d e)
