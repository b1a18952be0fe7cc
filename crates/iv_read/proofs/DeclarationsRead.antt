-- Declarations are read as the forms say.
use Rattle.std.proofs.Common.{◌≡◌, ℕ, ◌≤◌, true, false, List, [], ◌∷◌, ◌++◌, length, refl, sym, ◌∙◌, arith, append_assoc, append-nil, ap}
use Rattle.std.specs.Prelude.{Option}
use Rattle.iv_lex.specs.declared.cutting.Token.{Token}
use Rattle.iv_recogniser.specs.declared.class.Class.TheVariants as class
use Rattle.iv_recogniser.specs.declared.class.Sort.TheVariants as sort
use Rattle.iv_recogniser.specs.Class.{has}
use Rattle.iv_forms.specs.declared.command.Fixity.{Fixity}
use Rattle.iv_forms.specs.declared.command.Constant.{Constant}
use Rattle.iv_forms.specs.declared.command.Equation.{Equation}
use Rattle.iv_forms.specs.declared.lexeme.Lexeme.{Lexeme}
use Rattle.iv_forms.specs.CommandForm as C
use Rattle.iv_forms.specs.CommandForm.{IsSomeNat, IsFixity, IsFix, IsConst, IsMoreConsts, IsAndConsts, IsAxiomConsts, IsMoreTvars, IsTvars, IsJudgmentForm, IsEquation, IsMoreEquations}
use Rattle.iv_facts.specs.Found.{got, then_, begins, behind, many}
use Rattle.iv_readpart.specs.Declarations as D
use Rattle.iv_facts.proofs.Steps.{many_stop}
use Rattle.iv_read.proofs.Lengths.{len_IsConst, len_IsEquation}
use Rattle.iv_read.proofs.Firsts.{free_IsMoreConsts, free_IsAndConsts}
use Rattle.iv_read.specs.Laws.{Below}

module _ (law : Below) where
  pub some_nat_read : {n : Option ℕ} {ts us : List Lexeme} → IsSomeNat n ts us → begins sort.Numeral us ≡ false → D.some_nat ts ≡ got n us
  unfolding D.some_nat then_
  some_nat_read C.none_given e = rw e refl
  some_nat_read (C.one_given h) e = rw h refl

  fixity_read : {f : Fixity} {ts us : List Lexeme} → IsFixity f ts us → D.fixity ts ≡ got f us
  unfolding D.fixity D.infix_parts D.binder_parts D.priorities then_
  fixity_read (C.plain h) = rw h refl
  fixity_read (C.prefix {s = s} h a n b m) =
      rw (
        law.sets.apart (sort.Only class.Plain) (sort.Only class.Prefix) refl s.class h,
        law.sets.apart (sort.Only class.Infix) (sort.Only class.Prefix) refl s.class h,
        law.sets.apart (sort.Only class.Infixl) (sort.Only class.Prefix) refl s.class h,
        law.sets.apart (sort.Only class.Infixr) (sort.Only class.Prefix) refl s.class h,
        law.sets.apart (sort.Only class.Binder) (sort.Only class.Prefix) refl s.class h,
        h,
        a,
        n,
        b,
        m,
      ) refl
  fixity_read (C.infix_is {w = w} h s n) = rw (law.sets.apart (sort.Only class.Plain) (sort.Only class.Infix) refl w.class h, h, s, n) refl
  fixity_read (C.infixl_is {w = w} h s n) =
      rw (law.sets.apart (sort.Only class.Plain) (sort.Only class.Infixl) refl w.class h, law.sets.apart (sort.Only class.Infix) (sort.Only class.Infixl) refl w.class h, h, s, n) refl
  fixity_read (C.infixr_is {w = w} h s n) =
      rw (
        law.sets.apart (sort.Only class.Plain) (sort.Only class.Infixr) refl w.class h,
        law.sets.apart (sort.Only class.Infix) (sort.Only class.Infixr) refl w.class h,
        law.sets.apart (sort.Only class.Infixl) (sort.Only class.Infixr) refl w.class h,
        h,
        s,
        n,
      ) refl
  fixity_read (C.binder {w = w} h s n) =
      rw (
        law.sets.apart (sort.Only class.Plain) (sort.Only class.Binder) refl w.class h,
        law.sets.apart (sort.Only class.Infix) (sort.Only class.Binder) refl w.class h,
        law.sets.apart (sort.Only class.Infixl) (sort.Only class.Binder) refl w.class h,
        law.sets.apart (sort.Only class.Infixr) (sort.Only class.Binder) refl w.class h,
        h,
        s,
        n,
      ) refl

  fix_read : {f : Fixity} {ts us : List Lexeme} → IsFix f ts us → begins (sort.Only class.Open) us ≡ false → D.fix ts ≡ got f us
  unfolding D.fix then_
  fix_read C.no_fix e = rw e refl
  fix_read (C.fix_is a f b) e = rw (a, fixity_read f, b) refl

  pub const_read : {x : Constant} {ts us : List Lexeme} → IsConst x ts us → begins (sort.Only class.Open) us ≡ false → D.constant ts ≡ got x us
  unfolding D.constant then_
  const_read (C.const x c t f) e = rw (x, c, t, fix_read f e) refl

  const_begins : {x : Constant} {ts us : List Lexeme} → IsConst x ts us → begins sort.Identifier ts ≡ true
  const_begins (C.const x c t f) = x

  pub more_consts_read : {xs : List Constant} {ts us : List Lexeme} → IsMoreConsts xs ts us → begins (sort.Only class.Open) us ≡ false → begins sort.Identifier us ≡ false
      → (found : List Constant) (steps : List Lexeme) → length ts ≤ length steps → many (begins sort.Identifier) D.constant found steps ts ≡ got (found ++ xs) us
  unfolding many then_
  more_consts_read {us = us} C.no_more_consts o e found steps b = many_stop _ _ found steps _ e ∙ ap (λ z. got z us) (sym (append-nil found))
  more_consts_read (C.more_consts d r) o e found [] b = absurd (omega (arith, b, len_IsConst law d))
  more_consts_read (C.more_consts {x = y} {xs = ys} {vs = vs} d r) o e found (_ ∷ steps) b =
      rw (const_begins d, const_read d (free_IsMoreConsts law (sort.Only class.Open) refl r o))
      (more_consts_read r o e (found ++ y ∷ []) steps (omega (arith, b, len_IsConst law d)) ∙ ap (λ z. got z vs) (append_assoc found (y ∷ []) ys))

  and_consts_read : {xs : List Constant} {ts us : List Lexeme} → IsAndConsts xs ts us → begins (sort.Only class.Open) us ≡ false → begins (sort.Only class.And) us ≡ false
      → (found : List Constant) (steps : List Lexeme) → length ts ≤ length steps → many (begins (sort.Only class.And)) (λ us. D.constant (behind us)) found steps ts ≡ got (found ++ xs) us
  unfolding many then_
  and_consts_read {us = us} C.no_and_consts o e found steps b = many_stop _ _ found steps _ e ∙ ap (λ z. got z us) (sym (append-nil found))
  and_consts_read (C.and_consts a d r) o e found [] b = absurd (omega (arith, b))
  and_consts_read (C.and_consts {x = y} {xs = ys} {vs = vs} a d r) o e found (_ ∷ steps) b =
      rw (a, const_read d (free_IsAndConsts law (sort.Only class.Open) refl r o))
      (and_consts_read r o e (found ++ y ∷ []) steps (omega (arith, b, len_IsConst law d)) ∙ ap (λ z. got z vs) (append_assoc found (y ∷ []) ys))

  pub axiom_consts_read : {xs : List Constant} {ts us : List Lexeme} → IsAxiomConsts xs ts us → begins sort.Identifier us ≡ false → begins (sort.Only class.Open) us ≡ false
      → begins (sort.Only class.And) us ≡ false → D.axiom_consts ts ≡ got xs us
  unfolding D.axiom_consts D.and_consts then_
  axiom_consts_read C.no_axiom_consts i o e = rw i refl
  axiom_consts_read (C.axiom_consts {x = y} {us = ws} d r) i o e =
      rw (const_begins d, const_read d (free_IsAndConsts law (sort.Only class.Open) refl r o), and_consts_read r o e (y ∷ []) ws (omega (arith))) refl

  more_tvars_read : {xs : List Token} {ts us : List Lexeme} → IsMoreTvars xs ts us → begins (sort.Only class.Comma) us ≡ false
      → (found : List Token) (steps : List Lexeme) → length ts ≤ length steps → many (begins (sort.Only class.Comma)) (λ us. D.tvar (behind us)) found steps ts ≡ got (found ++ xs) us
  unfolding many then_ D.tvar
  more_tvars_read {us = us} C.no_more_tvars e found steps b = many_stop _ _ found steps _ e ∙ ap (λ z. got z us) (sym (append-nil found))
  more_tvars_read (C.more_tvars c v r) e found [] b = absurd (omega (arith, b))
  more_tvars_read (C.more_tvars {v = x} {xs = ys} {us = vs} c v r) e found (_ ∷ steps) b =
      rw (c, v) (more_tvars_read r e (found ++ x.token ∷ []) steps (omega (arith, b)) ∙ ap (λ z. got z vs) (append_assoc found (x.token ∷ []) ys))

  pub tvars_read : {xs : List Token} {ts us : List Lexeme} → IsTvars xs ts us → begins (sort.Only class.Tvar) us ≡ false → begins (sort.Only class.Open) us ≡ false → D.tvars ts ≡ got xs us
  unfolding D.tvars D.more_tvars D.tvar then_
  tvars_read C.no_tvars e o = rw (e, o) refl
  tvars_read (C.one_tvar v) e o = rw v refl
  tvars_read (C.tvars {a = x} {v = y} {b = c} {ts = ts} a v r b) e o =
      let comma : has (sort.Only class.Comma) c.class ≡ false = law.sets.apart (sort.Only class.Comma) (sort.Only class.Close) refl c.class b in
      rw (law.sets.apart (sort.Only class.Tvar) (sort.Only class.Open) refl x.class a, a, v, more_tvars_read r comma (y.token ∷ []) ts (omega (arith)), b) refl

  pub judgment_form_read : {ts us : List Lexeme} → IsJudgmentForm ts us → begins (sort.Only class.Open) us ≡ false → D.judgment_form ts ≡ got tt us
  unfolding D.judgment_form then_
  judgment_form_read C.no_judgment_form o = rw o refl
  judgment_form_read (C.judgment_form a s n b) o = rw (a, s, n, b) refl

  equation_read : {x : Equation} {ts us : List Lexeme} → IsEquation x ts us → D.equation ts ≡ got x us
  unfolding D.equation then_
  equation_read (C.equation p e t) = rw (p, e, t) refl

  more_equations_read : {xs : List Equation} {ts us : List Lexeme} → IsMoreEquations xs ts us → begins (sort.Only class.And) us ≡ false
      → (found : List Equation) (steps : List Lexeme) → length ts ≤ length steps → many (begins (sort.Only class.And)) (λ us. D.equation (behind us)) found steps ts ≡ got (found ++ xs) us
  unfolding many then_
  more_equations_read {us = us} C.no_more_equations e found steps b = many_stop _ _ found steps _ e ∙ ap (λ z. got z us) (sym (append-nil found))
  more_equations_read (C.more_equations a d r) e found [] b = absurd (omega (arith, b))
  more_equations_read (C.more_equations {x = y} {xs = ys} {vs = vs} a d r) e found (_ ∷ steps) b =
      rw (a, equation_read d) (more_equations_read r e (found ++ y ∷ []) steps (omega (arith, b, len_IsEquation law d)) ∙ ap (λ z. got z vs) (append_assoc found (y ∷ []) ys))

  pub equations_read : {x : Equation} {xs : List Equation} {ts us vs : List Lexeme} → IsEquation x ts us → IsMoreEquations xs us vs → begins (sort.Only class.And) vs ≡ false
      → (D.equation ts ≡ got x us) × (D.more_equations (x ∷ []) us ≡ got (x ∷ xs) vs)
  unfolding D.more_equations
  equations_read {x = x} {us = us} d r e = (equation_read d, more_equations_read r e (x ∷ []) us (omega (arith)))
