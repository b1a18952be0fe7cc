-- Numbers and the patterns of a case are read as the forms say.
use Rattle.std.proofs.Common.{◌≡◌, ◌≤◌, ℕ, Bool, true, false, List, [], ◌∷◌, ◌++◌, length, refl, sym, ◌∙◌, arith, append_assoc, append-nil, ap}
use Rattle.std.specs.Prelude.{◌&&◌}
use Rattle.iv_recogniser.specs.declared.class.Class.TheVariants as class
use Rattle.iv_recogniser.specs.declared.class.Sort.TheVariants as sort
use Rattle.iv_recogniser.specs.Class.{has}
use Rattle.iv_forms.specs.declared.method.Cut.{Cut}
use Rattle.iv_forms.specs.declared.method.Pattern.{Pattern}
use Rattle.iv_forms.specs.declared.lexeme.Lexeme.{Lexeme}
use Rattle.iv_forms.specs.MethodForm.{IsOptNat, no_number, a_number, IsCut, no_cut, a_cut, IsPattern, named_pattern, pattern_, IsMorePatterns, no_more_patterns, more_patterns}
use Rattle.iv_facts.specs.Found.{got, then_, begins, behind, many}
use Rattle.iv_readmethod.specs.Patterns as P
use Rattle.iv_facts.proofs.Steps.{many_stop}
use Rattle.iv_readmethod.proofs.Lengths.{len_IsPattern}
use Rattle.iv_readmethod.proofs.Firsts.{free_IsCut, free_IsMorePatterns}
use Rattle.iv_readmethod.specs.Laws.{Below}

pub and_false : (b : Bool) → (b && false) ≡ false
and_false true = refl
and_false false = refl

module _ (law : Below) where
  pub opt_nat_read : {n : ℕ} {ts us : List Lexeme} → IsOptNat n ts us → begins sort.Numeral us ≡ false → P.opt_nat ts ≡ got n us
  unfolding P.opt_nat then_
  opt_nat_read no_number e = rw e refl
  opt_nat_read (a_number n) e = rw n refl

  pub cut_read : {k : Cut} {ts us : List Lexeme} → IsCut k ts us → begins (sort.Only class.Open) us ≡ false → P.cut ts ≡ got k us
  unfolding P.cut then_
  cut_read no_cut e = rw e refl
  cut_read (a_cut {b = c} a w n b) e =
      let number : has sort.Numeral c.class ≡ false = law.sets.apart sort.Numeral (sort.Only class.Close) refl c.class b in
      rw (a, w, opt_nat_read n number, b) refl

  pub pattern_read : {p : Pattern} {ts us : List Lexeme} → IsPattern p ts us → begins (sort.Only class.Open) us ≡ false → begins (sort.Only class.Colon) us ≡ false → P.pattern ts ≡ got p us
  unfolding P.pattern P.bare_pattern P.named then_
  pattern_read (named_pattern x c t k) o e = rw (x, c, t, cut_read k o) refl
  pattern_read (pattern_ t k) o e = rw (free_IsCut law (sort.Only class.Colon) refl k e, and_false, t, cut_read k o) refl

  pub more_patterns_read : {ps : List Pattern} {ts us : List Lexeme} → IsMorePatterns ps ts us → begins (sort.Only class.And) us ≡ false → begins (sort.Only class.Open) us ≡ false → begins (sort.Only class.Colon) us ≡ false
      → (found : List Pattern) (steps : List Lexeme) → length ts ≤ length steps → many (begins (sort.Only class.And)) (λ us. P.pattern (behind us)) found steps ts ≡ got (found ++ ps) us
  unfolding many then_
  more_patterns_read {us = us} no_more_patterns e o c found steps b = many_stop _ _ found steps _ e ∙ ap (λ z. got z us) (sym (append-nil found))
  more_patterns_read (more_patterns a p r) e o c found [] b = absurd (omega (arith, b))
  more_patterns_read (more_patterns {p = x} {ps = xs} {vs = vs} a p r) e o c found (_ ∷ steps) b =
      rw (a, pattern_read p (free_IsMorePatterns law (sort.Only class.Open) refl r o) (free_IsMorePatterns law (sort.Only class.Colon) refl r c))
      (more_patterns_read r e o c (found ++ x ∷ []) steps (omega (arith, b, len_IsPattern law p)) ∙ ap (λ z. got z vs) (append_assoc found (x ∷ []) xs))
