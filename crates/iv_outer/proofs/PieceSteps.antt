-- Steps of cutting pieces.
use Rattle.std.proofs.Common.{◌≡◌, ℕ, zero, suc, ◌+◌, ◌<◌, List, [], ◌∷◌, ◌++◌, length, drop, refl, ap, sym, ◌∙◌, arith, append_assoc}
use Rattle.std.proofs.lemmas.List.{drop-drop}
use Rattle.iv_lex.specs.declared.cutting.Token.{Token}
use Rattle.iv_outer.specs.declared.pieces.Piece.{Piece}
use Rattle.iv_outer.specs.Piece.{pieces_from, plain_more}

-- the tokens of the piece before are skipped
pub skipped : (n at : ℕ) (ts : List Token) → pieces_from n at ts ≡ pieces_from 0 (at + n) (drop n ts)
skipped zero at ts = let e : at ≡ at + 0 = omega arith in ap (λ a. pieces_from 0 a ts) e
skipped (suc n) at [] = refl
skipped (suc n) at (t ∷ ts) = let e : at + 1 + n ≡ at + suc n = omega arith in skipped n (at + 1) ts ∙ ap (λ a. pieces_from 0 a (drop n ts)) e

-- the token at an index
pub front : (ts : List Token) (at : ℕ) → at < length ts → (t : Token) × (drop at ts ≡ t ∷ drop (at + 1) ts)
front [] at h = absurd (omega arith)
front (t ∷ ts) zero h = (t, refl)
front (t ∷ ts) (suc at) h =
    let low : at < length ts = omega arith in
    let x = front ts at low in
    let e : suc (at + 1) ≡ suc at + 1 = omega arith in
    (x.0, x.1 ∙ ap (λ r. x.0 ∷ r) (ap (λ k. drop k (t ∷ ts)) e))

-- one piece
pub piece_step : (ts : List Token) (found : List Piece) (at n : ℕ) → at < length ts → n ≡ plain_more (drop (at + 1) ts) → found ++ pieces_from 0 at (drop at ts) ≡ pieces_from 0 0 ts → (found ++ record { first = at; count = n + 1 } ∷ []) ++ pieces_from 0 (at + (n + 1)) (drop (at + (n + 1)) ts) ≡ pieces_from 0 0 ts
piece_step ts found at n h is so_far =
    let x = front ts at h in
    let sum : at + 1 + n ≡ at + (n + 1) = omega arith in
    let rest : pieces_from n (at + 1) (drop (at + 1) ts) ≡ pieces_from 0 (at + (n + 1)) (drop (at + (n + 1)) ts) =
    skipped n (at + 1) (drop (at + 1) ts) ∙ ap (λ r. pieces_from 0 (at + 1 + n) r) (drop-drop n (at + 1) ts) ∙ ap (λ k. pieces_from 0 k (drop k ts)) sum in
    let one : pieces_from 0 at (x.0 ∷ drop (at + 1) ts) ≡ record { first = at; count = n + 1 } ∷ pieces_from n (at + 1) (drop (at + 1) ts) =
    ap (λ k. record { first = at; count = k + 1 } ∷ pieces_from k (at + 1) (drop (at + 1) ts)) (sym is) in
    append_assoc found (record { first = at; count = n + 1 } ∷ []) (pieces_from 0 (at + (n + 1)) (drop (at + (n + 1)) ts))
    ∙ ap (λ r. found ++ (record { first = at; count = n + 1 } ∷ r)) (sym rest)
    ∙ ap (λ r. found ++ r) (sym one)
    ∙ ap (λ r. found ++ pieces_from 0 at r) (sym x.1)
    ∙ so_far
