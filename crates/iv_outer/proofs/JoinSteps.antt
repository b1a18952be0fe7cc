-- Pieces are joined to the tokens.
use Rattle.std.proofs.Common.{◌≡◌, ℕ, zero, suc, ◌+◌, ◌≤◌, List, [], ◌∷◌, ◌++◌, length, take, drop, refl, ap, sym, ◌∙◌, subst, arith}
use Rattle.std.specs.Prelude.{flat_map}
use Rattle.std.proofs.lemmas.List.{drop-drop, drop_all, take-append-drop}
use Rattle.iv_lex.specs.declared.cutting.Token.{Token}
use Rattle.iv_outer.specs.declared.pieces.Piece.{Piece}
use Rattle.iv_outer.specs.Piece.{pieces_from, pieces_of, plain_more}
use Rattle.iv_outer.proofs.PieceSteps.{skipped}

-- the tokens of a piece
abbrev part : List Token → Piece → List Token
part ts p = take p.count (drop p.first ts)

-- one piece and those behind it
one : (n : ℕ) (ts : List Token) (at : ℕ) (t : Token) (r : List Token) → drop at ts ≡ t ∷ r → flat_map (part ts) (pieces_from 0 (at + 1 + plain_more r) (drop (at + 1 + plain_more r) ts)) ≡ drop (at + 1 + plain_more r) ts → flat_map (part ts) (pieces_from 0 at (t ∷ r)) ≡ t ∷ r
one n ts at t r e rest =
    let k : ℕ = plain_more r in
    let behind : r ≡ drop (at + 1) ts = sym (ap (drop 1) e) ∙ drop-drop 1 at ts in
    let cut : drop k r ≡ drop (at + 1 + k) ts = ap (drop k) behind ∙ drop-drop k (at + 1) ts in
    let more : flat_map (part ts) (pieces_from k (at + 1) r) ≡ drop k r =
    ap (flat_map (part ts)) (skipped k (at + 1) r ∙ ap (λ us. pieces_from 0 (at + 1 + k) us) cut) ∙ rest ∙ sym cut in
    let number : k + 1 ≡ suc k = omega arith in
    let head : take (k + 1) (drop at ts) ≡ t ∷ take k r = ap (take (k + 1)) e ∙ ap (λ m. take m (t ∷ r)) number in
    ap (λ us. us ++ flat_map (part ts) (pieces_from k (at + 1) r)) head ∙ ap (λ us. (t ∷ take k r) ++ us) more ∙ ap (λ us. t ∷ us) (take-append-drop k r)

-- the pieces from an index on, where at most n tokens are left
from_index : (n : ℕ) (ts : List Token) (at : ℕ) → length ts ≤ at + n → flat_map (part ts) (pieces_from 0 at (drop at ts)) ≡ drop at ts
from_index zero ts at h =
    let low : length ts ≤ at = omega arith in
    let none : drop at ts ≡ [] = drop_all at ts low in
    subst (λ (us : List Token). flat_map (part ts) (pieces_from 0 at us) ≡ us) (sym none) refl
from_index (suc n) ts at h =
    let cases : (us : List Token) → drop at ts ≡ us → flat_map (part ts) (pieces_from 0 at us) ≡ us = λ us.
    elim us as (λ v. drop at ts ≡ v → flat_map (part ts) (pieces_from 0 at v) ≡ v) [
      | [] ↦ (λ e. refl)
      | t ∷ r ↦ (λ e. one n ts at t r e (from_index n ts (at + 1 + plain_more r) (omega arith)))
    ] in
    cases (drop at ts) refl

pub joined : (ts : List Token) → flat_map (part ts) (pieces_of ts) ≡ ts
joined ts = from_index (length ts) ts 0 (omega arith)
