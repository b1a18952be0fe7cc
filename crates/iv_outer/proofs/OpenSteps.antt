-- Steps of opening cartouches.
use Rattle.std.proofs.Common.{◌≡◌, ℕ, zero, suc, ◌<◌, ◌≤◌, List, [], ◌∷◌, ◌++◌, length, map, Bool, true, false, refl, ap, ◌∙◌, subst, arith, encode_utf8_all}
use Rattle.std.specs.Prelude.{nat_lt, ◌||◌}
use Rattle.std.proofs.lemmas.Bool.Decides.{nat_tests}
use Rattle.iv_lex.specs.Token.{tokens_of}
use Rattle.iv_recogniser.specs.declared.class.Class.{Class}
use Rattle.iv_recogniser.specs.declared.class.Class.TheVariants as class
use Rattle.iv_forms.specs.declared.lexeme.Lexeme.{Lexeme}
use Rattle.iv_outer.specs.Classify.{lexeme_of}
use Rattle.iv_outer.specs.Opened.{placed, bracket, opened_cartouche, is_case, open_once, opened, any_case}

below : (n : ℕ) → n < 4294967296 → nat_lt n 4294967296 ≡ true
below n h = grind (arith, nat_tests)

above : (n : ℕ) → 4294967296 ≤ n → nat_lt n 4294967296 ≡ false
above n h = grind (arith, nat_tests)

pub opened_is : (l : Lexeme) (bytes : List ℕ) → bytes ≡ encode_utf8_all l.token.text → length bytes < 4294967296 → bracket class.Into l.token ∷ (map (λ t. lexeme_of (placed l.token t)) (tokens_of bytes) ++ bracket class.OutOf l.token ∷ []) ≡ opened_cartouche l
unfolding opened_cartouche
opened_is l bytes e h =
    let small : length (encode_utf8_all l.token.text) < 4294967296 = subst (λ (bs : List ℕ). length bs < 4294967296) e h in
    rw (below (length (encode_utf8_all l.token.text)) small) (ap (λ bs. bracket class.Into l.token ∷ (map (λ t. lexeme_of (placed l.token t)) (tokens_of bs) ++ bracket class.OutOf l.token ∷ [])) e)

pub closed_is : (l : Lexeme) (bytes : List ℕ) → bytes ≡ encode_utf8_all l.token.text → 4294967296 ≤ length bytes → l ∷ [] ≡ opened_cartouche l
unfolding opened_cartouche
closed_is l bytes e h =
    let large : 4294967296 ≤ length (encode_utf8_all l.token.text) = subst (λ (bs : List ℕ). 4294967296 ≤ length bs) e h in
    rw (above (length (encode_utf8_all l.token.text)) large) refl

or_none : (a b : Bool) → (a || b) ≡ false → (a ≡ false) × (b ≡ false)
or_none true b h = let bad : true ≡ false = h in cc
or_none false b h = (refl, h)

-- where no cartouche of a case is, nothing is opened
once_same : (before : Class) (ls : List Lexeme) → any_case before ls ≡ false → open_once before ls ≡ ls
once_same before [] h = refl
once_same before (l ∷ ls) h =
    let x = or_none (is_case before l) (any_case l.class ls) h in
    rw x.0 (ap (λ r. l ∷ r) (once_same l.class ls x.1))

pub opened_same : (n : ℕ) (ls : List Lexeme) → any_case class.Other ls ≡ false → opened n ls ≡ ls
opened_same zero ls h = refl
opened_same (suc n) ls h = ap (opened n) (once_same class.Other ls h) ∙ opened_same n ls h
