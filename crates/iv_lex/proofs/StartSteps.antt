-- Steps of the telling apart of forms.
use Rattle.std.proofs.Common.{◌≡◌, ℕ, ◌+◌, ◌<◌, ◌≤◌, List, [], ◌∷◌, length, drop, refl, arith, length-drop}
use Rattle.std.specs.Prelude.{true, false, Bool, cond, ◌&&◌}
use Rattle.iv_lex.specs.declared.letters.Letter.{Letter}
use Rattle.iv_lex.specs.declared.starts.Start.{Start}
use Rattle.iv_lex.specs.declared.starts.Start.TheVariants.{Blank, Comment, Cartouche, Quote, Name, Digits, Variable, TypeVariable, Named, Sign, Run, Double, Single, Nothing}
use Rattle.iv_lex.specs.Letter.{is_char, is_blank}
use Rattle.iv_lex.specs.Form.{first_is, is_named, alphas}
use Rattle.iv_lex.specs.Start.{start_at, closed_start, word_start, sign_start, or_else}

-- a letter that meets a test is there
first_fits : (test : Letter → Bool) (ls : List Letter) → first_is test ls ≡ true → 0 < length ls
first_fits test [] e = cc
first_fits test (l ∷ ls) e = omega arith

-- the second of two tests that hold
and_second : (a b : Bool) → (a && b) ≡ true → b ≡ true
and_second true b e = e
and_second false b e = cc

-- a named symbol's letters are there
pub named_fits : (ls : List Letter) → is_named ls ≡ true → 3 + alphas (drop 2 ls) ≤ length ls
named_fits ls e =
    let n : ℕ = 2 + alphas (drop 2 ls) in
    let close = and_second _ (first_is (is_char 62) (drop n ls)) e in
    let some = first_fits (is_char 62) (drop n ls) close in
    omega (arith, some, length-drop n ls)

-- none of four tests gives a named symbol
closed_other : (a b c : Bool) → cond a Comment (cond b Cartouche (cond c Quote Nothing)) ≡ Named → Nothing ≡ cond a Comment (cond b Cartouche (cond c Quote Nothing))
closed_other true b c e = cc
closed_other false true c e = cc
closed_other false false true e = cc
closed_other false false false e = cc

-- the second, where the first isn't it
else_named : (s t : Start) → (s ≡ Named → Nothing ≡ s) → or_else s t ≡ Named → t ≡ Named
else_named Nothing t other e = e
else_named Blank t other e = cc
else_named Comment t other e = cc
else_named Cartouche t other e = cc
else_named Quote t other e = cc
else_named Name t other e = cc
else_named Digits t other e = cc
else_named Variable t other e = cc
else_named TypeVariable t other e = cc
else_named Named t other e = let bad = other refl in cc
else_named Sign t other e = cc
else_named Run t other e = cc
else_named Double t other e = cc
else_named Single t other e = cc

word_other : (a b c d : Bool) → cond a Name (cond b Digits (cond c Variable (cond d TypeVariable Nothing))) ≡ Named → Nothing ≡ cond a Name (cond b Digits (cond c Variable (cond d TypeVariable Nothing)))
word_other true b c d e = cc
word_other false true c d e = cc
word_other false false true d e = cc
word_other false false false true e = cc
word_other false false false false e = cc

sign_named : (a b c d f : Bool) → cond a Named (cond b Sign (cond c Run (cond d Double (cond f Single Nothing)))) ≡ Named → a ≡ true
sign_named true b c d f e = refl
sign_named false true c d f e = cc
sign_named false false true d f e = cc
sign_named false false false true f e = cc
sign_named false false false false true e = cc
sign_named false false false false false e = cc

past_blank : (a : Bool) (s : Start) → cond a Blank s ≡ Named → s ≡ Named
past_blank true s e = cc
past_blank false s e = e

-- where a named symbol begins, one stands first
pub named_start : (ls : List Letter) → start_at ls ≡ Named → is_named ls ≡ true
named_start ls e =
    let past = past_blank (first_is is_blank ls) _ e in
    let unclosed = else_named (closed_start ls) _ (closed_other _ _ _) past in
    let wordless = else_named (word_start ls) (sign_start ls) (word_other _ _ _ _) unclosed in
    sign_named _ _ _ _ _ wordless
