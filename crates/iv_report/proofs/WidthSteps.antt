-- The columns of bytes, part by part.
use Rattle.std.proofs.Common.{◌≡◌, ◌≤◌, ◌<◌, ◌+◌, ◌-◌, ◌∙◌, ℕ, zero, suc, Bool, true, false, cond, List, [], ◌∷◌, length, take, drop, refl, sym, ap, arith, length-drop, length-take, ◌==◌, ◌&&◌}
use Rattle.std.proofs.lemmas.Bool.Decides.{nat_tests}
use Rattle.std.specs.Prelude.{chars, IsUtf8, IsAscii, nat_le}
use Rattle.std.specs.Str.{IsValidUpTo}
use Rattle.std.specs.List.{list_all}
use Rattle.std.specs.Str.Lossy.{utf8_valid_len}
use Rattle.std.proofs.lemmas.Str.{utf8_valid_len-IsUtf8, utf8_valid_len-IsValidUpTo, IsUtf8-nil, IsUtf8-from_ascii, chars-IsAscii, chars-nil}
use Rattle.unicode_width.specs.Width.{str_width, read_before, step, past_emoji, plain}
use Rattle.std.proofs.lemmas.List.{drop_all, drop-take}
use Rattle.iv_report.specs.Width.{width_within, width_of}
use Rattle.iv_report.specs.Place.{is_narrow}

-- nothing takes no column
none_within : (k : ℕ) → width_within k [] ≡ 0
unfolding width_within str_width
none_within zero = refl
none_within (suc k) = rw (utf8_valid_len-IsUtf8 [] IsUtf8-nil, chars-nil) refl

same_test : (n m : ℕ) → n ≡ m → (n == m) ≡ true
same_test n m e = grind (arith, nat_tests, e)

less_test : (n m : ℕ) → n < m → (n == m) ≡ false
less_test n m l = grind (arith, nat_tests, l)

-- a text
text_within : (k : ℕ) (bs : List ℕ) → IsUtf8 bs → length bs ≤ k → width_within k bs ≡ str_width false (chars bs)
unfolding width_within str_width
text_within zero [] u l = rw chars-nil refl
text_within zero (b ∷ bs) u l = absurd (omega arith)
text_within (suc k) bs u l = rw (same_test _ _ (utf8_valid_len-IsUtf8 bs u)) refl

-- a front that is a text, and a byte behind it
fault_within : (k n : ℕ) (bs : List ℕ) → IsValidUpTo bs n → width_within (suc k) bs ≡ str_width false (chars (take n bs)) + 1 + width_within k (drop (n + 1) bs)
unfolding width_within
fault_within k n bs v =
    let at : utf8_valid_len bs ≡ n = utf8_valid_len-IsValidUpTo bs n v in
    rw (at, less_test n (length bs) v.short) refl

-- as many steps as there are bytes are enough
within_enough : (j k : ℕ) (bs : List ℕ) → length bs ≤ j → length bs ≤ k → width_within j bs ≡ width_within k bs
unfolding width_within
within_enough zero k [] p q = sym (none_within k)
within_enough zero k (b ∷ bs) p q = absurd (omega arith)
within_enough (suc j) zero [] p q = none_within (suc j)
within_enough (suc j) zero (b ∷ bs) p q = absurd (omega arith)
within_enough (suc j) (suc k) bs p q =
    ap (λ w. cond (utf8_valid_len bs == length bs) (str_width false (chars bs)) (str_width false (chars (take (utf8_valid_len bs) bs)) + 1 + w))
    (within_enough j k (drop (utf8_valid_len bs + 1) bs) (omega (arith, length-drop (utf8_valid_len bs + 1) bs)) (omega (arith, length-drop (utf8_valid_len bs + 1) bs)))

-- the columns of a text
pub text_columns : (bs : List ℕ) → IsUtf8 bs → width_of bs ≡ str_width false (chars bs)
text_columns bs u = text_within (length bs) bs u (omega arith)

-- the columns of a front that is a text, of the byte behind it, and of what follows
pub fault_columns : (bs : List ℕ) (n : ℕ) → IsValidUpTo bs n → width_of bs ≡ str_width false (chars (take n bs)) + 1 + width_of (drop (n + 1) bs)
fault_columns [] n v = absurd (omega (arith, v.short))
fault_columns (b ∷ bs) n v =
    fault_within (length bs) n (b ∷ bs) v
    ∙ ap (λ w. str_width false (chars (take n (b ∷ bs))) + 1 + w)
    (within_enough (length bs) (length (drop (n + 1) (b ∷ bs))) (drop (n + 1) (b ∷ bs)) (omega (arith, length-drop (n + 1) (b ∷ bs))) (omega arith))

-- nothing is left behind the end
pub nothing_left : (w : ℕ) (bs : List ℕ) (n : ℕ) → length bs ≤ n → w ≡ w + width_of (drop n bs)
nothing_left w bs n l = rw (drop_all n bs l, none_within 0) (omega arith)

and_false : (a : Bool) → (a && false) ≡ false
and_false true = refl
and_false false = refl

-- one ASCII byte before a text takes one column
narrow_step : (b total : ℕ) → (b == 10) ≡ false → nat_le b 0xA0 ≡ true → step false b (total, plain) ≡ (total + 1, plain)
unfolding step past_emoji
narrow_step b total h k = rw (h, and_false (b == 13), k) refl

narrow_small : (b : ℕ) → is_narrow b ≡ true → nat_le b 0xA0 ≡ true
narrow_small b h = grind (arith, nat_tests)

narrow_no_feed : (b : ℕ) → is_narrow b ≡ true → (b == 10) ≡ false
narrow_no_feed b h = grind (arith, nat_tests)

front_true : (a b : Bool) → (a && b) ≡ true → a ≡ true
front_true true b h = refl
front_true false b h = h

rest_true : (a b : Bool) → (a && b) ≡ true → b ≡ true
rest_true true b h = h
rest_true false b h = cc

narrow_read : (bs : List ℕ) → list_all is_narrow bs ≡ true → read_before false bs (0, plain) ≡ (length bs, plain)
narrow_read [] h = refl
narrow_read (b ∷ bs) h =
    let first : is_narrow b ≡ true = front_true _ _ h in
    ap (step false b) (narrow_read bs (rest_true _ _ h)) ∙ narrow_step b (length bs) (narrow_no_feed b first) (narrow_small b first) ∙ ap (λ n. (n, plain)) (omega arith)

narrow_ascii : (bs : List ℕ) → list_all is_narrow bs ≡ true → IsAscii bs
narrow_ascii [] h i = omega arith
narrow_ascii (b ∷ bs) h zero =
    let first : is_narrow b ≡ true = front_true _ _ h in grind (arith, nat_tests)
narrow_ascii (b ∷ bs) h (suc i) = narrow_ascii bs (rest_true _ _ h) i

-- each byte takes one column where all are ASCII
pub narrow_columns : (bs : List ℕ) → list_all is_narrow bs ≡ true → width_of bs ≡ length bs
unfolding str_width
narrow_columns bs h =
    let a : IsAscii bs = narrow_ascii bs h in
    text_columns bs (IsUtf8-from_ascii bs a) ∙ ap (str_width false) (chars-IsAscii bs a) ∙ ap (λ r. r.0) (narrow_read bs h)

-- all was counted
pub all_counted : (n : ℕ) (rest bytes : List ℕ) → (length rest == 0) ≡ true → n + width_of rest ≡ width_of bytes → n ≡ width_of bytes
all_counted n [] bytes e h = omega arith ∙ ap (λ m. n + m) (sym (none_within 0)) ∙ h
all_counted n (b ∷ bs) bytes e h = absurd (grind (arith, nat_tests))

-- the end of a front part, cut out of the whole
pub end_of_front : (bs : List ℕ) (at n k : ℕ) → at ≤ length bs → k ≤ length (take at bs) → n ≡ length (drop k (take at bs)) → take (at - (at - n)) (drop (at - n) bs) ≡ drop k (take at bs)
end_of_front bs at n k inside l e =
    let less : k ≤ at = omega (arith, l, length-take at bs) in
    let is : at - n ≡ k = omega (arith, e, length-drop k (take at bs), length-take at bs) in
    let all : k + (at - k) ≡ at = omega arith in
    rw is (sym (drop-take k (at - k) bs) ∙ ap (λ m. drop k (take m bs)) all)
