-- Steps of the reading of parts.
use Rattle.std.proofs.Common.{◌≡◌, ℕ, ◌<◌, ◌≤◌, suc, zero, Bool, true, false, List, [], ◌∷◌, ◌++◌, length, take, drop, refl, ap, sym, ◌∙◌, arith, append_assoc, append-nil}
use Rattle.std.proofs.Math.Seq.{drop-length, take-length}
use Rattle.std.specs.Prelude.{nat_eq, codes, Option, Some, None}
use Rattle.std.specs.Option.{option_map}
use Rattle.std.specs.List.{starts_with, onto_first}
use Rattle.iv_statement.specs.Reading.{parts_of, name_before}

-- an arrow stands at a place
abbrev pub arrow_at : List ℕ → ℕ → Bool
arrow_at text k = starts_with nat_eq (drop k text) (codes "==>")

-- what stands before the first arrow belongs to the first part
pub no_arrow : (n : ℕ) (text q : List ℕ) (qs : List (List ℕ)) → n ≤ length text → ((k : ℕ) → k < n → arrow_at text k ≡ false) → parts_of (drop n text) ≡ q ∷ qs → parts_of text ≡ (take n text ++ q) ∷ qs
no_arrow zero text q qs fits none e = e
no_arrow (suc n) [] q qs fits none e = absurd (omega arith)
no_arrow (suc n) (b ∷ bs) q qs fits none e =
    rw (none 0 (omega arith)) (ap (onto_first b) (no_arrow n bs q qs (omega arith) (λ k h. none (suc k) (omega arith)) e))

-- an arrow ends an empty part
pub arrow_cut : (text : List ℕ) → 3 ≤ length text → arrow_at text 0 ≡ true → parts_of text ≡ [] ∷ parts_of (drop 3 text)
arrow_cut [] fits e = absurd (omega arith)
arrow_cut (a ∷ []) fits e = absurd (omega arith)
arrow_cut (a ∷ b ∷ []) fits e = absurd (omega arith)
arrow_cut (a ∷ b ∷ c ∷ text) fits e = rw e refl

-- the part before the first arrow, and the parts behind it
pub part_found : (text : List ℕ) (at : ℕ) → at ≤ length text → ((k : ℕ) → k < at → arrow_at text k ≡ false) → 3 ≤ length (drop at text) → starts_with nat_eq (drop at text) (codes "==>") ≡ true → parts_of text ≡ take at text ∷ parts_of (drop 3 (drop at text))
part_found text at fits none long e =
    no_arrow at text [] (parts_of (drop 3 (drop at text))) fits none (arrow_cut (drop at text) long e) ∙ ap (λ p. p ∷ parts_of (drop 3 (drop at text))) (append-nil (take at text))

-- a text without an arrow is one part
pub one_part : (text : List ℕ) → ((k : ℕ) → k < length text → arrow_at text k ≡ false) → parts_of text ≡ text ∷ []
one_part text none =
    let e : take (length text) text ++ [] ≡ text = append-nil (take (length text) text) ∙ take-length text in
    no_arrow (length text) text [] [] (omega arith) none (ap parts_of (drop-length text)) ∙ ap (λ p. p ∷ []) e

-- names that were read, before those that are still to be read
abbrev pub names_behind : List (List ℕ) → Option (List (List ℕ)) → Option (List (List ℕ))
names_behind names later = option_map (λ more. names ++ more) later

-- one name more
pub name_more : (names : List (List ℕ)) (name : List ℕ) (later : Option (List (List ℕ))) → names_behind names (name_before (Some name) later) ≡ names_behind (names ++ name ∷ []) later
name_more names name None = refl
name_more names name (Some more) = ap Some (sym (append_assoc names (name ∷ []) more))

-- no name yet
pub no_names : (later : Option (List (List ℕ))) → later ≡ names_behind [] later
no_names None = refl
no_names (Some more) = refl
