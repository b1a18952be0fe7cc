-- Steps of the texts of tokens.
use Rattle.std.proofs.Common.{◌≡◌, ℕ, ◌+◌, ◌<◌, suc, List, [], ◌∷◌, ◌++◌, length, get_or, drop, refl, ap, sym, ◌∙◌, drop-cons, add-one, append_assoc}
use Rattle.std.specs.Prelude.{true, false, Bool, cond}
use Rattle.iv_lex.specs.Spelling.{unescaped, is_escape}

-- a text's first character, kept or not
unescaped_step : (escaped e : Bool) (cs : List ℕ) (text : List ℕ) (c : ℕ) → e ≡ is_escape escaped (c ∷ cs) → text ++ unescaped escaped (c ∷ cs) ≡ cond e text (text ++ c ∷ []) ++ unescaped e cs
unescaped_step escaped true cs text c is = rw (← is) refl
unescaped_step escaped false cs text c is = rw (← is, append_assoc) refl

-- a text's character at an index, kept or not
pub unescaped_at : (escaped e : Bool) (cs : List ℕ) (text : List ℕ) (n x : ℕ) → n < length cs → x ≡ get_or cs n x → e ≡ is_escape escaped (drop n cs) → cond e text (text ++ x ∷ []) ++ unescaped e (drop (n + 1) cs) ≡ text ++ unescaped escaped (drop n cs)
unescaped_at escaped e cs text n x h at is =
    let head : drop n cs ≡ x ∷ drop (n + 1) cs = rw (add-one, drop-cons cs n x) (ap (λ y. y ∷ drop (suc n) cs) (sym at)) in
    sym (unescaped_step escaped e (drop (n + 1) cs) text x (is ∙ ap (is_escape escaped) head)) ∙ ap (λ xs. text ++ unescaped escaped xs) (sym head)
