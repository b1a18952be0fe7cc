-- One level more or less.
use Rattle.std.proofs.Common.{◌≡◌, ℕ, zero, suc, ◌-◌, ◌<◌, List, refl, arith}
use Rattle.iv_forms.specs.declared.lexeme.Lexeme.{Lexeme}
use Rattle.iv_facts.specs.Facts.{inside, atts_with, fact}

pub inside_more : (left : ℕ) (ts : List Lexeme) → 0 < left → inside left ts ≡ atts_with (fact (left - 1)) ts
unfolding inside fact
inside_more zero ts h = absurd (omega (arith, h))
inside_more (suc left) ts h =
    let e : suc left - 1 ≡ left = omega arith in
    rw e refl
