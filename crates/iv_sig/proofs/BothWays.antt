-- Notations are found by the constant and by the symbol.
use Rattle.std.proofs.Common.{◌≡◌, ℕ, List, Option, None, Some, sym, ap, ◌∙◌}
use Rattle.std.proofs.lemmas.Map.Entries.{place_from_lookup, lookup_from_place}
use Rattle.std.proofs.lemmas.Option.{slice_get-map}
use Rattle.std.specs.Cmp.Lexicographic.{bytes_decides, nat_list_eq_equiv}
use Rattle.std.specs.List.{IsDistinct, slice_get}
use Rattle.std.specs.Map.{keys_of}
use Rattle.std.specs.Option.{option_map}
use Rattle.std.specs.Str.{bytes_eq}
use Rattle.iv_sig.specs.declared.fixity.Fixity.{Fixity}
use Rattle.iv_sig.specs.Fixity.{symbol_of}
use Rattle.iv_sig.specs.Signature.{by_symbol}
use Rattle.iv_sig.specs.Table.{look}

abbrev under : List ℕ × Fixity → List ℕ × (List ℕ × Fixity)
under e = (symbol_of e.1, e)

under-by : (o : Option (List ℕ × Fixity)) (k n : List ℕ) (f : Fixity) → option_map under o ≡ Some (k, (n, f)) → (o ≡ Some (n, f)) × (symbol_of f ≡ k)
under-by None k n f h = absurd (let bad : None ≡ Some (k, (n, f)) = h in cc)
under-by (Some e) k n f h =
    let pair : under e ≡ (k, (n, f)) = cc in
    let one : e ≡ (n, f) = ap (λ p. p.1) pair in
    (ap Some one, ap (λ z. symbol_of z.1) (sym one) ∙ ap (λ p. p.0) pair)

pub from-symbol : (ns : List (List ℕ × Fixity)) (s n : List ℕ) (f : Fixity) → IsDistinct bytes_eq (keys_of ns) → look (by_symbol ns) s ≡ Some (n, f) → (look ns n ≡ Some f) × (symbol_of f ≡ s)
from-symbol ns s n f d h =
    let p = place_from_lookup (bytes_eq s) (by_symbol ns) (n, f) h in
    let q = under-by (slice_get ns p.0) p.1 n f (sym (slice_get-map under ns p.0) ∙ p.2) in
    (lookup_from_place nat_list_eq_equiv ns p.0 n f d q.0, q.1 ∙ sym ((bytes_decides s p.1).0 p.3))

pub from-constant : (ns : List (List ℕ × Fixity)) (n : List ℕ) (f : Fixity) → IsDistinct bytes_eq (keys_of (by_symbol ns)) → look ns n ≡ Some f → look (by_symbol ns) (symbol_of f) ≡ Some (n, f)
from-constant ns n f d h =
    let p = place_from_lookup (bytes_eq n) ns f h in
    let same : n ≡ p.1 = (bytes_decides n p.1).0 p.3 in
    let there : slice_get (by_symbol ns) p.0 ≡ Some (symbol_of f, (p.1, f)) = slice_get-map under ns p.0 ∙ ap (option_map under) p.2 in
    lookup_from_place nat_list_eq_equiv (by_symbol ns) p.0 (symbol_of f) (n, f) d (rw (← same) at there)
