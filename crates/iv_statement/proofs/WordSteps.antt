-- Steps of the reading of words.
use Rattle.std.proofs.Common.{◌≡◌, ℕ, ◌+◌, suc, Bool, true, false, cond, not, List, [], ◌∷◌, take, drop, refl, ap, sym, ◌∙◌, arith, one-add}
use Rattle.std.specs.Prelude.{filter}
use Rattle.std.specs.List.{prefix_len, position_or_len, slice_split, onto_first}
use Rattle.iv_statement.specs.Letter.{is_blank}
use Rattle.iv_statement.specs.Reading.{has_letters, words_of, word_before}

-- blanks before a text change no word
pub words_behind_blanks : (text : List ℕ) → words_of text ≡ words_of (drop (prefix_len is_blank text) text)
words_behind_blanks [] = refl
words_behind_blanks (b ∷ bs) = cases (is_blank b) refl (words_behind_blanks bs)
  where
    cases : (v : Bool) → is_blank b ≡ v → words_of bs ≡ words_of (drop (prefix_len is_blank bs) bs) → words_of (b ∷ bs) ≡ words_of (drop (cond v (1 + prefix_len is_blank bs) 0) (b ∷ bs))
    cases true e h = rw (e, one-add) h
    cases false e h = refl

-- the first part of a text cut at its blanks
pub first_run : (text : List ℕ) → slice_split is_blank text ≡ take (position_or_len is_blank text) text ∷ drop 1 (slice_split is_blank text)
first_run [] = refl
first_run (b ∷ bs) = cases (is_blank b) (first_run bs)
  where
    cases : (v : Bool) → slice_split is_blank bs ≡ take (position_or_len is_blank bs) bs ∷ drop 1 (slice_split is_blank bs) → cond v ([] ∷ slice_split is_blank bs) (onto_first b (slice_split is_blank bs)) ≡ take (cond (not v) (1 + position_or_len is_blank bs) 0) (b ∷ bs) ∷ drop 1 (cond v ([] ∷ slice_split is_blank bs) (onto_first b (slice_split is_blank bs)))
    cases true h = refl
    cases false h = rw (h, one-add) refl

-- the words behind the first part
pub later_runs : (text : List ℕ) → filter has_letters (drop 1 (slice_split is_blank text)) ≡ words_of (drop (position_or_len is_blank text) text)
later_runs [] = refl
later_runs (b ∷ bs) = cases (is_blank b) refl (first_run bs) (later_runs bs)
  where
    cases : (v : Bool) → is_blank b ≡ v → slice_split is_blank bs ≡ take (position_or_len is_blank bs) bs ∷ drop 1 (slice_split is_blank bs) → filter has_letters (drop 1 (slice_split is_blank bs)) ≡ words_of (drop (position_or_len is_blank bs) bs) → filter has_letters (drop 1 (cond v ([] ∷ slice_split is_blank bs) (onto_first b (slice_split is_blank bs)))) ≡ words_of (drop (cond (not v) (1 + position_or_len is_blank bs) 0) (b ∷ bs))
    cases true e h k = rw e refl
    cases false e h k = rw (h, one-add) k

-- behind the blanks before it a text begins with no blank
pub no_blank_left : (text : List ℕ) → prefix_len is_blank (drop (prefix_len is_blank text) text) ≡ 0
no_blank_left [] = refl
no_blank_left (b ∷ bs) = cases (is_blank b) refl (no_blank_left bs)
  where
    cases : (v : Bool) → is_blank b ≡ v → prefix_len is_blank (drop (prefix_len is_blank bs) bs) ≡ 0 → prefix_len is_blank (drop (cond v (1 + prefix_len is_blank bs) 0) (b ∷ bs)) ≡ 0
    cases true e h = rw one-add h
    cases false e h = rw e refl

-- the first word of a text that begins with no blank
pub word_at_front : (text : List ℕ) → prefix_len is_blank text ≡ 0 → words_of text ≡ word_before (take (position_or_len is_blank text) text) (words_of (drop (position_or_len is_blank text) text))
word_at_front [] h = refl
word_at_front (b ∷ bs) h = cases (is_blank b) h refl (first_run (b ∷ bs)) (later_runs (b ∷ bs))
  where
    Words : ℕ → List (List ℕ) → Type 0
    Words n words = words ≡ word_before (take n (b ∷ bs)) (words_of (drop n (b ∷ bs)))

    cases : (v : Bool) → cond v (1 + prefix_len is_blank bs) 0 ≡ 0 → is_blank b ≡ v → slice_split is_blank (b ∷ bs) ≡ take (position_or_len is_blank (b ∷ bs)) (b ∷ bs) ∷ drop 1 (slice_split is_blank (b ∷ bs)) → filter has_letters (drop 1 (slice_split is_blank (b ∷ bs))) ≡ words_of (drop (position_or_len is_blank (b ∷ bs)) (b ∷ bs)) → Words (position_or_len is_blank (b ∷ bs)) (words_of (b ∷ bs))
    cases true z e r k = absurd (omega (arith, z))
    cases false z e r k =
        let n : position_or_len is_blank (b ∷ bs) ≡ suc (position_or_len is_blank bs) = rw (e, one-add) refl in
        ap (filter has_letters) r
        ∙ ap (λ m. filter has_letters (take m (b ∷ bs) ∷ drop 1 (slice_split is_blank (b ∷ bs)))) n
        ∙ ap (λ ws. (b ∷ take (position_or_len is_blank bs) bs) ∷ ws) k
        ∙ ap (λ m. word_before (take m (b ∷ bs)) (words_of (drop (position_or_len is_blank (b ∷ bs)) (b ∷ bs)))) (sym n)

-- the first word, and the words behind it
pub first_word : (text rest : List ℕ) (blanks n : ℕ) → blanks ≡ prefix_len is_blank text → rest ≡ drop blanks text → n ≡ position_or_len is_blank rest → words_of text ≡ word_before (take n rest) (words_of (drop n rest))
first_word text rest blanks n e r m =
    let at_rest : rest ≡ drop (prefix_len is_blank text) text = rw (← e) r in
    words_behind_blanks text ∙ ap words_of (sym at_rest) ∙ rw m (word_at_front rest (rw at_rest (no_blank_left text)))
