-- Steps of the reading of letters.
use Rattle.std.proofs.Common.{◌≡◌, ℕ, ◌+◌, ◌<◌, ◌≤◌, suc, zero, List, [], ◌∷◌, ◌++◌, length, get_or, drop, refl, ap, sym, ◌∙◌, arith, drop-cons, add-one, length-drop, add-zero, append_assoc}
use Rattle.std.proofs.lemmas.List.{drop-drop}
use Rattle.iv_lex.specs.declared.letters.Letter.{Letter}
use Rattle.iv_lex.specs.Letter.{letters_from, letters_of, letter_at, letter_more}

-- the bytes that belong to the letter before are skipped
pub skipped : (n at : ℕ) (bs : List ℕ) → n ≤ length bs → letters_from n at bs ≡ letters_from 0 (at + n) (drop n bs)
skipped zero at bs h = rw add-zero refl
skipped (suc n) at [] h = absurd (omega arith)
skipped (suc n) at (b ∷ bs) h =
    let e : (at + 1) + n ≡ at + suc n = omega arith in
    skipped n (at + 1) bs (omega arith) ∙ ap (λ k. letters_from 0 k (drop n bs)) e

-- the letter that begins at an offset, and then the rest behind it
pub one_letter : (d : List ℕ) (at m : ℕ) → at < length d → m ≡ letter_more (drop at d) → 1 + m ≤ length (drop at d) → letters_from 0 at (drop at d) ≡ letter_at at (drop at d) ∷ letters_from 0 (at + 1 + m) (drop (at + 1 + m) d)
one_letter d at m l e fits =
    let b : ℕ = get_or d at 0 in
    let bs : List ℕ = drop (at + 1) d in
    let head : drop at d ≡ b ∷ bs = rw (add-one, drop-cons d at 0) refl in
    let len : m ≤ length bs = omega (arith, length-drop at d, length-drop (at + 1) d) in
    let more : letter_more (b ∷ bs) ≡ m = ap letter_more (sym head) ∙ sym e in
    let step : letters_from 0 at (b ∷ bs) ≡ letter_at at (b ∷ bs) ∷ letters_from m (at + 1) bs = ap (λ k. letter_at at (b ∷ bs) ∷ letters_from k (at + 1) bs) more in
    let after : letters_from m (at + 1) bs ≡ letters_from 0 (at + 1 + m) (drop (at + 1 + m) d) = skipped m (at + 1) bs len ∙ ap (letters_from 0 (at + 1 + m)) (drop-drop m (at + 1) d) in
    ap (letters_from 0 at) head ∙ step ∙ ap (λ ls. letter_at at (b ∷ bs) ∷ ls) after ∙ ap (λ xs. letter_at at xs ∷ letters_from 0 (at + 1 + m) (drop (at + 1 + m) d)) (sym head)

-- what was found, with a letter more
pub after_letter : (d : List ℕ) (at m : ℕ) (found : List Letter) (x : Letter) → at < length d → m ≡ letter_more (drop at d) → 1 + m ≤ length (drop at d) → x ≡ letter_at at (drop at d) → found ++ letters_from 0 at (drop at d) ≡ letters_of d → (found ++ x ∷ []) ++ letters_from 0 (at + 1 + m) (drop (at + 1 + m) d) ≡ letters_of d
after_letter d at m found x l e fits is before =
    rw append_assoc (ap (λ y. found ++ (y ∷ letters_from 0 (at + 1 + m) (drop (at + 1 + m) d))) is ∙ ap (λ ls. found ++ ls) (sym (one_letter d at m l e fits)) ∙ before)
