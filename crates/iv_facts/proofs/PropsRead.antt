-- Labels, propositions and names are read as the forms say.
use Rattle.std.proofs.Common.{◌≡◌, ◌≤◌, true, false, ◌||◌, List, [], ◌∷◌, ◌++◌, length, refl, sym, ◌∙◌, arith, append_assoc, append-nil, ap}
use Rattle.std.specs.Prelude.{Option, Some}
use Rattle.iv_lex.specs.declared.cutting.Token.{Token}
use Rattle.iv_recogniser.specs.declared.class.Class.TheVariants as class
use Rattle.iv_recogniser.specs.declared.class.Sort.{Sort}
use Rattle.iv_recogniser.specs.declared.class.Sort.TheVariants as sort
use Rattle.iv_recogniser.specs.Class.{has}
use Rattle.iv_forms.specs.declared.fact.Att.{Att}
use Rattle.iv_forms.specs.declared.prop.Label.{Label}
use Rattle.iv_forms.specs.declared.prop.Prop.{Prop}
use Rattle.iv_forms.specs.declared.prop.Claim.{Claim}
use Rattle.iv_forms.specs.declared.prop.Group.{Group}
use Rattle.iv_forms.specs.declared.prop.VarGroup.{VarGroup}
use Rattle.iv_forms.specs.declared.lexeme.Lexeme.{Lexeme}
use Rattle.iv_forms.specs.Lexeme.{Is, IsA, AreAll, no_more, one_more}
use Rattle.iv_forms.specs.FactForm.{IsOptAtts, no_atts, some_atts}
use Rattle.iv_forms.specs.PropForm.{IsLabel, named_label, bare_label, IsOptLabel, no_label, a_label, IsPatterns, no_patterns, patterns, IsProp, prop, IsClaim, claim, IsMoreProps, no_more_props, more_props, IsGroup, group, IsMoreGroups, no_more_groups, more_groups, IsProps, props, IsOfType, no_type, of_type, IsVarGroup, var_group, IsMoreVars, no_more_vars, more_vars, IsVars, vars, IsOptFor, no_for, for_vars}
use Rattle.iv_facts.specs.Found.{got, then_, begins, behind, many, unless_deep}
use Rattle.iv_facts.specs.FactLevels.{limit, opt_atts_levels, label_levels, deep_at, deep_label, deep_opt_label, deep_claim, deep_group, deep_more_groups, deep_props}
use Rattle.iv_facts.specs.Props as P
use Rattle.iv_facts.proofs.Steps.{went_on, many_stop}
use Rattle.iv_facts.proofs.Held.{Held, after, limited, then_unless, then_got, no_and, or_so}
use Rattle.iv_facts.proofs.Sorts.{Law, apart}
use Rattle.iv_facts.proofs.Lengths.{len_IsProp, len_IsGroup, len_IsVarGroup}
use Rattle.iv_facts.proofs.Firsts.{free_IsAtts, free_IsPatterns, free_IsMoreProps, free_IsMoreGroups, free_IsOfType, free_IsMoreVars}
use Rattle.iv_facts.proofs.FactsRead.{opt_atts_read, atts_begin}

module _ (law : Law) where
  text_read : (k : Sort) (t : Lexeme) (ts : List Lexeme) → Is k t → P.text_of k (t ∷ ts) ≡ got t.token ts
  unfolding P.text_of then_
  text_read k t ts h = rw h refl

  pub more_of_read : (k : Sort) {xs : List Token} {ts us : List Lexeme} → AreAll k xs ts us → begins k us ≡ false → (found : List Token) (steps : List Lexeme) → length ts ≤ length steps
      → many (begins k) (P.text_of k) found steps ts ≡ got (found ++ xs) us
  unfolding many P.text_of then_
  more_of_read k {us = us} no_more e found steps b = many_stop _ _ found steps _ e ∙ ap (λ z. got z us) (sym (append-nil found))
  more_of_read k (one_more h r) e found [] b = absurd (omega (arith, b))
  more_of_read k {us = vs} (one_more {x = t} {xs = xs} h r) e found (_ ∷ steps) b =
      rw h (more_of_read k r e (found ++ t.token ∷ []) steps (omega (arith, b)) ∙ ap (λ z. got z vs) (append_assoc found (t.token ∷ []) xs))

  pub some_of_read : (k : Sort) (t : Lexeme) {xs : List Token} {ts us : List Lexeme} → Is k t → AreAll k xs ts us → begins k us ≡ false → P.some_of k (t ∷ ts) ≡ got (t.token ∷ xs) us
  unfolding P.some_of P.more_of P.text_of then_
  some_of_read k t {ts = ts} h r e = rw (h, more_of_read k r e (t.token ∷ []) ts (omega arith)) refl

  pub named_atts_read : (n : Lexeme) {xs : List Att} {ts us : List Lexeme} → Is sort.Name n → (a : IsOptAtts xs ts us) → begins (sort.Only class.Left) us ≡ false
      → P.named_atts (n ∷ ts) ≡ unless_deep (deep_at (n ∷ ts) (opt_atts_levels a)) (record { name = n.token; atts = xs }) us
  unfolding P.named_atts P.named_parts P.text_of then_
  named_atts_read n {ts = ts} h a e = limited (n ∷ ts) (rw h (after _ (opt_atts_read law limit a e) refl))

  label_held : {l : Label} {ts us : List Lexeme} (d : IsLabel l ts us) → Held limit (label_levels d) l us (P.label_parts ts)
  unfolding P.label_parts P.opt_name P.text_of then_
  label_held (named_label {c = t} n a c) =
      let left : has (sort.Only class.Left) t.class ≡ false = apart law (sort.Only class.Left) (sort.Only class.Colon) refl t.class c in
      rw n (after _ (opt_atts_read law limit a left) (rw c refl))
  label_held (bare_label {c = t} {ts = ts} a c) =
      let left : has (sort.Only class.Left) t.class ≡ false = apart law (sort.Only class.Left) (sort.Only class.Colon) refl t.class c in
      let name : begins sort.Name ts ≡ false = free_IsAtts law sort.Name refl a in
      rw name (after _ (opt_atts_read law limit (some_atts a) left) (rw c refl))

  label_read : {l : Label} {ts us : List Lexeme} (d : IsLabel l ts us) → P.label ts ≡ unless_deep (deep_label d) l us
  unfolding P.label
  label_read {ts = ts} d = limited ts (label_held d)

  atts_or_colon : {xs : List Att} {c : Lexeme} {ts us : List Lexeme} → IsOptAtts xs ts (c ∷ us) → IsA class.Colon c → (begins (sort.Only class.Colon) ts || begins (sort.Only class.Left) ts) ≡ true
  atts_or_colon no_atts c = rw c refl
  atts_or_colon {ts = ts} (some_atts a) c = or_so (begins (sort.Only class.Colon) ts) (atts_begin law a)

  pub label_begins : {l : Label} {ts us : List Lexeme} → IsLabel l ts us → P.begins_label ts ≡ true
  unfolding P.begins_label
  label_begins (named_label {n = t} n a c) = or_so (has (sort.Only class.Left) t.class) (rw (n, atts_or_colon a c) refl)
  label_begins (bare_label a c) = rw (atts_begin law a) refl

  pub opt_label_read : {l : Option Label} {ts us : List Lexeme} (d : IsOptLabel l ts us) → P.begins_label us ≡ false → P.opt_label ts ≡ unless_deep (deep_opt_label d) l us
  unfolding P.opt_label
  opt_label_read no_label e = rw e refl
  opt_label_read {us = us} (a_label {l = l} d) e = rw (label_begins d) (then_got (deep_label d) l (Some l) us us _ (label_read d) refl)

  patterns_read : {ps : List Token} {ts us : List Lexeme} → IsPatterns ps ts us → begins (sort.Only class.Open) us ≡ false → P.patterns ts ≡ got ps us
  unfolding P.patterns then_
  patterns_read no_patterns e = rw e refl
  patterns_read (patterns {t = t} {b = b} a w h r c) e =
      let term : has sort.Term b.class ≡ false = apart law sort.Term (sort.Only class.Close) refl b.class c in
      rw (a, w, some_of_read sort.Term t h r term, c) refl

  pub prop_read : {p : Prop} {ts us : List Lexeme} → IsProp p ts us → begins (sort.Only class.Open) us ≡ false → P.prop ts ≡ got p us
  unfolding P.prop P.text_of then_
  prop_read (prop h r) e = rw (h, patterns_read r e) refl

  -- no label stands in front of a proposition
  pub no_label_ahead : {p : Prop} {ts us : List Lexeme} → IsProp p ts us → begins (sort.Only class.Colon) us ≡ false → begins (sort.Only class.Left) us ≡ false → P.begins_label ts ≡ false
  unfolding P.begins_label
  no_label_ahead (prop {t = t} {ts = ts} h r) c l =
      let left : has (sort.Only class.Left) t.class ≡ false = apart law (sort.Only class.Left) sort.Term refl t.class h in
      let behind_colon : begins (sort.Only class.Colon) ts ≡ false = free_IsPatterns law (sort.Only class.Colon) refl r c in
      let behind_left : begins (sort.Only class.Left) ts ≡ false = free_IsPatterns law (sort.Only class.Left) refl r l in
      let neither : (begins (sort.Only class.Colon) ts || begins (sort.Only class.Left) ts) ≡ false = rw (behind_colon, behind_left) refl in
      rw (left, no_and (has sort.Name t.class) neither) refl

  pub claim_read : {c : Claim} {ts us : List Lexeme} (d : IsClaim c ts us) → begins (sort.Only class.Open) us ≡ false → begins (sort.Only class.Colon) us ≡ false → begins (sort.Only class.Left) us ≡ false
      → P.claim ts ≡ unless_deep (deep_claim d) c us
  unfolding P.claim
  claim_read (claim {l = l} {p = p} {us = us} {vs = vs} d q) o c e =
      then_got (deep_opt_label d) l (record { label = l; prop = p }) us vs _ (opt_label_read d (no_label_ahead q c e)) (went_on _ (prop_read q o))

  pub prop_begins : {p : Prop} {ts us : List Lexeme} → IsProp p ts us → begins sort.Term ts ≡ true
  prop_begins (prop h r) = h

  more_props_read : {ps : List Prop} {ts us : List Lexeme} → IsMoreProps ps ts us → begins (sort.Only class.Open) us ≡ false → begins sort.Term us ≡ false → (found : List Prop) (steps : List Lexeme) → length ts ≤ length steps
      → many (begins sort.Term) P.prop found steps ts ≡ got (found ++ ps) us
  unfolding many then_
  more_props_read {us = us} no_more_props o e found steps b = many_stop _ _ found steps _ e ∙ ap (λ z. got z us) (sym (append-nil found))
  more_props_read (more_props p r) o e found [] b = absurd (omega (arith, b, len_IsProp p))
  more_props_read (more_props {p = x} {ps = xs} {vs = vs} p r) o e found (_ ∷ steps) b =
      rw (prop_begins p, prop_read p (free_IsMoreProps law (sort.Only class.Open) refl r o))
      (more_props_read r o e (found ++ x ∷ []) steps (omega (arith, b, len_IsProp p)) ∙ ap (λ z. got z vs) (append_assoc found (x ∷ []) xs))

  pub group_read : {g : Group} {ts us : List Lexeme} (d : IsGroup g ts us) → begins (sort.Only class.Open) us ≡ false → begins sort.Term us ≡ false → begins (sort.Only class.Colon) us ≡ false
      → begins (sort.Only class.Left) us ≡ false → P.group ts ≡ unless_deep (deep_group d) g us
  unfolding P.group P.more_props
  group_read (group {l = l} {p = p} {ps = ps} {us = us} {vs = vs} {ws = ws} d q r) o t c e =
      then_got (deep_opt_label d) l (record { label = l; props = p ∷ ps }) us ws _
      (opt_label_read d (no_label_ahead q (free_IsMoreProps law (sort.Only class.Colon) refl r c) (free_IsMoreProps law (sort.Only class.Left) refl r e)))
      (went_on _ (prop_read q (free_IsMoreProps law (sort.Only class.Open) refl r o)) ∙ went_on _ (more_props_read r o t (p ∷ []) vs (omega arith)))

  group_in_front : {g : Group} {gs : List Group} {ts us vs : List Lexeme} (d : IsGroup g ts us) → IsMoreGroups gs us vs → begins (sort.Only class.Open) vs ≡ false → begins sort.Term vs ≡ false
      → begins (sort.Only class.Colon) vs ≡ false → begins (sort.Only class.Left) vs ≡ false → P.group ts ≡ unless_deep (deep_group d) g us
  group_in_front d r o t c e =
      group_read d (free_IsMoreGroups law (sort.Only class.Open) refl r o) (free_IsMoreGroups law sort.Term refl r t) (free_IsMoreGroups law (sort.Only class.Colon) refl r c)
      (free_IsMoreGroups law (sort.Only class.Left) refl r e)

  more_groups_read : {gs : List Group} {ts us : List Lexeme} (d : IsMoreGroups gs ts us) → begins (sort.Only class.Open) us ≡ false → begins sort.Term us ≡ false → begins (sort.Only class.Colon) us ≡ false
      → begins (sort.Only class.Left) us ≡ false → begins (sort.Only class.And) us ≡ false → (found : List Group) (steps : List Lexeme) → length ts ≤ length steps
      → many (begins (sort.Only class.And)) (λ us. P.group (behind us)) found steps ts ≡ unless_deep (deep_more_groups d) (found ++ gs) us
  unfolding many
  more_groups_read {us = us} no_more_groups o t c e a found steps b = many_stop (begins (sort.Only class.And)) (λ us. P.group (behind us)) found steps us a ∙ ap (λ z. got z us) (sym (append-nil found))
  more_groups_read (more_groups h g r) o t c e a found [] b = absurd (omega (arith, b))
  more_groups_read (more_groups {g = x} {gs = xs} {us = us} {vs = vs} h g r) o t c e a found (_ ∷ steps) b =
      rw h
      (then_unless (deep_group g) (deep_more_groups r) x _ us vs _ (group_in_front g r o t c e)
      (more_groups_read r o t c e a (found ++ x ∷ []) steps (omega (arith, b, len_IsGroup g)) ∙ ap (λ z. unless_deep (deep_more_groups r) z vs) (append_assoc found (x ∷ []) xs)))

  pub props_read : {gs : List Group} {ts us : List Lexeme} (d : IsProps gs ts us) → begins (sort.Only class.Open) us ≡ false → begins sort.Term us ≡ false → begins (sort.Only class.Colon) us ≡ false
      → begins (sort.Only class.Left) us ≡ false → begins (sort.Only class.And) us ≡ false → P.props ts ≡ unless_deep (deep_props d) gs us
  unfolding P.props P.more_groups
  props_read (props {g = x} {gs = xs} {us = us} {vs = vs} g r) o t c e a =
      then_unless (deep_group g) (deep_more_groups r) x (x ∷ xs) us vs _ (group_in_front g r o t c e) (more_groups_read r o t c e a (x ∷ []) us (omega arith))

  pub of_type_read : {t : Option Token} {ts us : List Lexeme} → IsOfType t ts us → begins (sort.Only class.Colons) us ≡ false → P.of_type ts ≡ got t us
  unfolding P.of_type P.text_of then_
  of_type_read no_type e = rw e refl
  of_type_read (of_type c h) e = rw (c, h) refl

  pub var_group_read : {g : VarGroup} {ts us : List Lexeme} → IsVarGroup g ts us → begins (sort.Only class.Colons) us ≡ false → begins sort.Identifier us ≡ false → P.var_group ts ≡ got g us
  unfolding P.var_group then_
  var_group_read (var_group {x = t} h r d) c e = rw (some_of_read sort.Identifier t h r (free_IsOfType law sort.Identifier refl d e), of_type_read d c) refl

  more_vars_read : {gs : List VarGroup} {ts us : List Lexeme} → IsMoreVars gs ts us → begins (sort.Only class.Colons) us ≡ false → begins sort.Identifier us ≡ false → begins (sort.Only class.And) us ≡ false
      → (found : List VarGroup) (steps : List Lexeme) → length ts ≤ length steps → many (begins (sort.Only class.And)) (λ us. P.var_group (behind us)) found steps ts ≡ got (found ++ gs) us
  unfolding many then_
  more_vars_read {us = us} no_more_vars c e a found steps b = many_stop _ _ found steps _ a ∙ ap (λ z. got z us) (sym (append-nil found))
  more_vars_read (more_vars h g r) c e a found [] b = absurd (omega (arith, b))
  more_vars_read (more_vars {g = x} {gs = xs} {vs = vs} h g r) c e a found (_ ∷ steps) b =
      rw (h, var_group_read g (free_IsMoreVars law (sort.Only class.Colons) refl r c) (free_IsMoreVars law sort.Identifier refl r e))
      (more_vars_read r c e a (found ++ x ∷ []) steps (omega (arith, b, len_IsVarGroup g)) ∙ ap (λ z. got z vs) (append_assoc found (x ∷ []) xs))

  pub vars_read : {gs : List VarGroup} {ts us : List Lexeme} → IsVars gs ts us → begins (sort.Only class.Colons) us ≡ false → begins sort.Identifier us ≡ false → begins (sort.Only class.And) us ≡ false → P.vars ts ≡ got gs us
  unfolding P.vars P.more_vars then_
  vars_read (vars {g = x} {us = us} g r) c e a =
      rw (var_group_read g (free_IsMoreVars law (sort.Only class.Colons) refl r c) (free_IsMoreVars law sort.Identifier refl r e), more_vars_read r c e a (x ∷ []) us (omega arith)) refl

  pub opt_for_read : {gs : List VarGroup} {ts us : List Lexeme} → IsOptFor gs ts us → begins (sort.Only class.For) us ≡ false → begins (sort.Only class.Colons) us ≡ false → begins sort.Identifier us ≡ false
      → begins (sort.Only class.And) us ≡ false → P.opt_for ts ≡ got gs us
  unfolding P.opt_for
  opt_for_read no_for f c e a = rw f refl
  opt_for_read (for_vars w d) f c e a = rw w (vars_read d c e a)
