-- What was read of a list of bytes, and what is left of it.
use Rattle.std.proofs.Common.{◌≡◌, ℕ, ◌≤◌, List, [], ◌++◌, length, take, drop, arith, ap, sym, refl, ◌∙◌, length-append, length-drop}
use Rattle.std.proofs.lemmas.List.{take-append-drop, drop-drop}
use Rattle.std.proofs.Math.Seq.{take-add}
use Rattle.std.proofs.lemmas.Grind.{common_steps}

-- where nothing is left, all was read
pub whole_read : (b read : List ℕ) → read ≡ take (length read) b → drop (length read) b ≡ [] → read ≡ b
whole_read b read t e = t ∙ (sym append-nil-right) ∙ ap (λ r. take (length read) b ++ r) (sym e) ∙ take-append-drop (length read) b
  where
    append-nil-right : take (length read) b ++ [] ≡ take (length read) b
    append-nil-right = grind (arith, common_steps)

-- the next part is read
pub next_read : (b read part : List ℕ) (n : ℕ) → read ≡ take (length read) b → length part ≡ n →
    part ≡ take n (drop (length read) b) → read ++ part ≡ take (length (read ++ part)) b
next_read b read part n t l e = rw (length-append read part, l, take-add (length read) n b, ← t, ← e) refl

-- what is left once the next part is read
pub next_left : (b read part : List ℕ) (n : ℕ) → length part ≡ n →
    drop n (drop (length read) b) ≡ drop (length (read ++ part)) b
next_left b read part n l = rw (length-append read part, l) (drop-drop n (length read) b)

-- the next part is within the bytes
pub next_within : (b read part : List ℕ) (n : ℕ) → length read ≤ length b → length part ≡ n →
    n ≤ length (drop (length read) b) → length (read ++ part) ≤ length b
next_within b read part n w l e = omega (arith, length-append read part, length-drop (length read) b)
