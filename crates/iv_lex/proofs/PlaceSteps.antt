-- Where letters and tokens stand.
use Rattle.std.proofs.Common.{◌≡◌, ℕ, ◌+◌, ◌-◌, ◌<◌, ◌≤◌, suc, zero, List, [], ◌∷◌, ◌++◌, length, take, refl, arith, subst}
use Rattle.std.specs.Prelude.{Option, Some, None, true, false, Bool, cond, nat_lt, unwrap_or}
use Rattle.std.specs.Option.{option_map, option_map_or}
use Rattle.std.proofs.lemmas.Bool.Decides.{nat_tests}
use Rattle.bstr.specs.Utf8.{decoded}
use Rattle.bstr.proofs.lemmas.PieceLemmas.{piece-bounds}
use Rattle.iv_lex.specs.declared.letters.Letter.{Letter}
use Rattle.iv_lex.specs.declared.nests.Nest.{Nest}
use Rattle.iv_lex.specs.declared.nests.Nest.TheVariants as nest
use Rattle.iv_lex.specs.declared.starts.Start.{Start}
use Rattle.iv_lex.specs.declared.starts.Start.TheVariants.{Blank, Comment, Cartouche, Quote, Name, Digits, Variable, TypeVariable, Named, Sign, Run, Double, Single, Nothing}
use Rattle.iv_lex.specs.declared.cutting.Kind.{Kind}
use Rattle.iv_lex.specs.declared.cutting.Token.{Token}
use Rattle.iv_lex.specs.Letter.{letters_from, letters_of, letter_more}
use Rattle.iv_lex.specs.Form.{nested_from, front, opening, closing, is_last, depth_after, string_from}
use Rattle.iv_lex.specs.Start.{start_at, measured}
use Rattle.iv_lex.specs.Token.{tokens_from, tokens_of, token_list, token_of, kind_at, count_at, first_at, last_end}
use Rattle.iv_lex.specs.Place.{AreJoined, AreInOrder}

-- a letter's further bytes are there
more_by : (o : Option ℕ) (n m : ℕ) → n ≤ suc m → option_map_or (λ _. n - 1) o 0 ≤ m
more_by None n m h = omega arith
more_by (Some c) n m h = omega arith

more_fits : (b : ℕ) (bs : List ℕ) → letter_more (b ∷ bs) ≤ length bs
unfolding letter_more
more_fits b bs =
    let bounds = piece-bounds (b ∷ bs) (omega arith) in
    more_by (decoded (b ∷ bs)).char (decoded (b ∷ bs)).size (length bs) (bounds.2)

-- the letters of some bytes are joined
pub letters_joined : (inside at : ℕ) (bs : List ℕ) → inside ≤ length bs → AreJoined (at + inside) (at + length bs) (letters_from inside at bs)
letters_joined zero at [] h = refl
letters_joined (suc n) at [] h = absurd (omega arith)
letters_joined (suc n) at (b ∷ bs) h =
    let e : at + 1 + n ≡ at + suc n = omega arith in
    let f : at + 1 + length bs ≡ at + suc (length bs) = omega arith in
    let P : ℕ → ℕ → Type 0 = λ x y. AreJoined x y (letters_from n (at + 1) bs) in
    subst (λ y. P (at + suc n) y) f (subst (λ x. P x (at + 1 + length bs)) e (letters_joined n (at + 1) bs (omega arith)))
letters_joined zero at (b ∷ bs) h =
    let m : ℕ = letter_more (b ∷ bs) in
    let f : at + 1 + length bs ≡ at + suc (length bs) = omega arith in
    (omega arith, omega arith, subst (λ y. AreJoined (at + 1 + m) y (letters_from m (at + 1) bs)) f (letters_joined m (at + 1) bs (more_fits b bs)))

-- the letters of a document are joined
pub joined_all : (bytes : List ℕ) → AreJoined 0 (length bytes) (letters_of bytes)
joined_all bytes =
    let z : 0 + length bytes ≡ length bytes = omega arith in
    subst (λ y. AreJoined 0 y (letters_of bytes)) z (letters_joined 0 0 bytes (omega arith))

-- tokens in order from a place are in order from any place before it
earlier : (from later to : ℕ) (ts : List Token) → from ≤ later → AreInOrder later to ts → AreInOrder from to ts
earlier from later to [] h o = omega arith
earlier from later to (t ∷ ts) h o = (omega (arith, o.0), o.1, o.2)

-- a front takes a letter at least
front_by : (a b : ℕ) → 0 < cond (nat_lt 0 a) a (cond (nat_lt 0 b) b 1)
front_by a b = grind (arith, nat_tests)

-- one more than a count
more_some : (o : Option ℕ) (n : ℕ) → 0 < n → 0 < unwrap_or (option_map suc o) n
more_some None n h = h
more_some (Some k) n h = omega arith

nested_by : (v : Bool) (f n : ℕ) (o : Option ℕ) → 0 < f → 0 < n → 0 < unwrap_or (cond v (Some f) (option_map suc o)) n
nested_by true f n o h g = h
nested_by false f n o h g = more_some o n g

nested_some : (nest : Nest) (l : Letter) (ls : List Letter) (n : ℕ) → 0 < n → 0 < unwrap_or (nested_from nest 0 0 (l ∷ ls)) n
unfolding nested_from
nested_some nest l ls n h =
    nested_by (is_last nest 0 (l ∷ ls)) (front nest (l ∷ ls)) n (nested_from nest (front nest (l ∷ ls) - 1) (depth_after nest 0 (l ∷ ls)) ls) (front_by (opening nest (l ∷ ls)) (closing nest (l ∷ ls))) h

-- what begins somewhere takes a letter at least
measured_some : (s : Start) (l : Letter) (ls : List Letter) → 0 < unwrap_or (measured s (l ∷ ls)) (length (l ∷ ls))
measured_some Comment l ls = nested_some nest.Comment l ls (length (l ∷ ls)) (omega arith)
measured_some Cartouche l ls = nested_some nest.Cartouche l ls (length (l ∷ ls)) (omega arith)
measured_some Quote l ls = more_some (string_from false ls) (length (l ∷ ls)) (omega arith)
measured_some Blank l ls = omega arith
measured_some Name l ls = omega arith
measured_some Digits l ls = omega arith
measured_some Variable l ls = omega arith
measured_some TypeVariable l ls = omega arith
measured_some Named l ls = omega arith
measured_some Sign l ls = omega arith
measured_some Run l ls = omega arith
measured_some Double l ls = omega arith
measured_some Single l ls = omega arith
measured_some Nothing l ls = omega arith

pub count_some : (l : Letter) (ls : List Letter) → 0 < count_at (l ∷ ls)
unfolding count_at
count_some l ls = measured_some (start_at (l ∷ ls)) l ls

-- a token or none in front of tokens in order
listed : (from to : ℕ) (kind : Option Kind) (w : List Letter) (ts : List Token) → from ≤ (first_at w).0 → (first_at w).0 < (last_end w).0 → AreInOrder (last_end w).0 to ts → AreInOrder from to (token_list kind w ++ ts)
unfolding token_of
listed from to None w ts h some o = earlier from (last_end w).0 to ts (omega arith) o
listed from to (Some kind) w ts h some o = (h, some, o)

-- the tokens that begin in some letters are in order
abbrev Ordered : ℕ → List Letter → Type 0
Ordered to ls = (n from : ℕ) → AreJoined from to ls → AreInOrder from to (tokens_from n ls)

-- and so are those behind a front that takes so many more of the letters
abbrev Behind : ℕ → List Letter → Type 0
Behind to ls = (m : ℕ) (l : Letter) → l.at.0 < l.end.0 → AreJoined l.end.0 to ls → (l.at.0 < (last_end (take (suc m) (l ∷ ls))).0) × AreInOrder (last_end (take (suc m) (l ∷ ls))).0 to (tokens_from m ls)

ordered_nil : (to : ℕ) → Ordered to []
ordered_nil to n from j = omega (arith, j)

behind_nil : (to : ℕ) → Behind to []
behind_nil to zero l h j = (h, omega (arith, j))
behind_nil to (suc k) l h j = (h, omega (arith, j))

ordered_cons : (to : ℕ) (x : Letter) (xs : List Letter) → Ordered to xs → Behind to xs → Ordered to (x ∷ xs)
ordered_cons to x xs main tail (suc k) from j = earlier from x.end.0 to (tokens_from k xs) (omega (arith, j.1)) (main k x.end.0 (j.2))
ordered_cons to x xs main tail zero from j =
    let m : ℕ = count_at (x ∷ xs) - 1 in
    let e : suc m ≡ count_at (x ∷ xs) = omega (arith, count_some x xs) in
    let t = tail m x (omega (arith, j.0, j.1)) (j.2) in
    subst (λ c. AreInOrder from to (token_list (kind_at (x ∷ xs)) (take c (x ∷ xs)) ++ tokens_from m xs)) e (listed from to (kind_at (x ∷ xs)) (take (suc m) (x ∷ xs)) (tokens_from m xs) (omega (arith, j.0)) (t.0) (t.1))

behind_cons : (to : ℕ) (x : Letter) (xs : List Letter) → Ordered to (x ∷ xs) → Behind to xs → Behind to (x ∷ xs)
behind_cons to x xs main tail zero l h j = (h, main 0 l.end.0 j)
behind_cons to x xs main tail (suc k) l h j =
    let t = tail k x (omega (arith, j.0, j.1)) (j.2) in
    (omega (arith, h, j.0, t.0), t.1)

both : (to : ℕ) (ls : List Letter) → Ordered to ls × Behind to ls
both to [] = (ordered_nil to, behind_nil to)
both to (x ∷ xs) =
    let rest = both to xs in
    let main = ordered_cons to x xs (rest.0) (rest.1) in
    (main, behind_cons to x xs main (rest.1))

-- the tokens of a document are in order
pub tokens_in_order : (bytes : List ℕ) → AreInOrder 0 (length bytes) (tokens_of bytes)
tokens_in_order bytes = (both (length bytes) (letters_of bytes)).0 0 0 (joined_all bytes)
