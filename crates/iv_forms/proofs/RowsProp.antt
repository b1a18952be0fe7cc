-- Written by tools/outer_means.py from tools/meanings.txt.
-- What the rows of the table mean.
use Rattle.std.proofs.Common.{List, [], ◌∷◌, refl, subst, inl, inr}
use Rattle.iv_recogniser.specs.declared.class.Sort.TheVariants as sort
use Rattle.iv_recogniser.specs.declared.part.Part.TheVariants as P
use Rattle.iv_recogniser.specs.declared.part.Symbol.{Symbol}
use Rattle.iv_recogniser.specs.declared.part.Symbol.TheVariants.{Goes}
use Rattle.iv_recogniser.specs.Table.{AND, BINDER, BINDING, CLOSE, COLON, COLONS, FOR, IDENTIFIER, INFIX, INFIXL, INFIXR, IS, LEFT, LOW, NAME, NO_NAME, OPEN, PLAIN, PREFIX, PRIORITY, RIGHT, TERM, TYPE}
use Rattle.iv_forms.specs.declared.lexeme.Lexeme.{Lexeme}
use Rattle.iv_forms.specs.Lexeme.{no_more, one_more}
use Rattle.iv_forms.specs.FactForm.{atts, no_atts, some_atts}
use Rattle.iv_forms.specs.PropForm.{a_label, bare_label, claim, for_vars, group, more_props, more_vars, named_label, no_for, no_label, no_more_groups, no_more_props, no_more_vars, no_patterns, no_type, of_type, patterns, prop, props, var_group, vars}
use Rattle.iv_forms.specs.CommandForm.{binder, const, fix_is, infix_is, infixl_is, infixr_is, no_fix, plain, prefix}
use Rattle.iv_forms.proofs.Sorts.{Law, name_term, within}
use Rattle.iv_forms.proofs.Means.{Means, MeansPart, end, phrase, token}
use Rattle.iv_forms.proofs.Helpers.{and_props}
use Rattle.iv_recogniser.specs.Table.{forms}
use Rattle.iv_recogniser.specs.Spell.{IsIn}

module _ (law : Law) where
  pub row_prop_0 : {ts us : List Lexeme} → Means (TERM ∷ Goes P.Pattern ∷ []) ts us → MeansPart P.Prop ts us
  row_prop_0 (token T t (phrase ps end)) = (_, prop t ps.1)

  pub part_prop : (r : List Symbol) → IsIn r (forms P.Prop) → {ts us : List Lexeme} → Means r ts us → MeansPart P.Prop ts us
  part_prop r (inl e) {ts = ts} {us = us} m = row_prop_0 (subst (λ q. Means q ts us) e m)
  part_prop r (inr (e)) m = elim e [ ]

  pub row_pattern_0 : {ts us : List Lexeme} → Means ([]) ts us → MeansPart P.Pattern ts us
  row_pattern_0 end = (_, no_patterns)

  pub row_pattern_1 : {ts us : List Lexeme} → Means (OPEN ∷ IS ∷ TERM ∷ Goes P.Terms ∷ CLOSE ∷ []) ts us → MeansPart P.Pattern ts us
  row_pattern_1 (token A a (token W w (token T t (phrase xs (token B b end))))) = (_, patterns a w t xs.1 b)

  pub part_pattern : (r : List Symbol) → IsIn r (forms P.Pattern) → {ts us : List Lexeme} → Means r ts us → MeansPart P.Pattern ts us
  part_pattern r (inl e) {ts = ts} {us = us} m = row_pattern_0 (subst (λ q. Means q ts us) e m)
  part_pattern r (inr (inl e)) {ts = ts} {us = us} m = row_pattern_1 (subst (λ q. Means q ts us) e m)
  part_pattern r (inr (inr (e))) m = elim e [ ]

  pub row_terms_0 : {ts us : List Lexeme} → Means ([]) ts us → MeansPart P.Terms ts us
  row_terms_0 end = (_, no_more)

  pub row_terms_1 : {ts us : List Lexeme} → Means (TERM ∷ Goes P.Terms ∷ []) ts us → MeansPart P.Terms ts us
  row_terms_1 (token T t (phrase xs end)) = (_, one_more t xs.1)

  pub part_terms : (r : List Symbol) → IsIn r (forms P.Terms) → {ts us : List Lexeme} → Means r ts us → MeansPart P.Terms ts us
  part_terms r (inl e) {ts = ts} {us = us} m = row_terms_0 (subst (λ q. Means q ts us) e m)
  part_terms r (inr (inl e)) {ts = ts} {us = us} m = row_terms_1 (subst (λ q. Means q ts us) e m)
  part_terms r (inr (inr (e))) m = elim e [ ]

  pub row_claim_0 : {ts us : List Lexeme} → Means (NAME ∷ Goes P.ClaimName ∷ []) ts us → MeansPart P.Claim ts us
  row_claim_0 (token N n (phrase f end)) = f N n

  pub row_claim_1 : {ts us : List Lexeme} → Means (LEFT ∷ Goes P.Att ∷ Goes P.MoreAtts ∷ RIGHT ∷ COLON ∷ Goes P.Prop ∷ []) ts us → MeansPart P.Claim ts us
  row_claim_1 (token A a (phrase x (phrase xs (token B b (token C c (phrase p end)))))) = (_, claim (a_label (bare_label (atts a x.1 xs.1 b) c)) p.1)

  pub row_claim_2 : {ts us : List Lexeme} → Means (NO_NAME ∷ Goes P.Pattern ∷ []) ts us → MeansPart P.Claim ts us
  row_claim_2 (token T t (phrase ps end)) = (_, claim no_label (prop (within law sort.NoName sort.Term refl T t) ps.1))

  pub part_claim : (r : List Symbol) → IsIn r (forms P.Claim) → {ts us : List Lexeme} → Means r ts us → MeansPart P.Claim ts us
  part_claim r (inl e) {ts = ts} {us = us} m = row_claim_0 (subst (λ q. Means q ts us) e m)
  part_claim r (inr (inl e)) {ts = ts} {us = us} m = row_claim_1 (subst (λ q. Means q ts us) e m)
  part_claim r (inr (inr (inl e))) {ts = ts} {us = us} m = row_claim_2 (subst (λ q. Means q ts us) e m)
  part_claim r (inr (inr (inr (e)))) m = elim e [ ]

  pub row_claim_name_0 : {ts us : List Lexeme} → Means ([]) ts us → MeansPart P.ClaimName ts us
  row_claim_name_0 end = (λ n h. (_, claim no_label (prop (name_term law n h) no_patterns)))

  pub row_claim_name_1 : {ts us : List Lexeme} → Means (COLON ∷ Goes P.Prop ∷ []) ts us → MeansPart P.ClaimName ts us
  row_claim_name_1 (token C c (phrase p end)) = (λ n h. (_, claim (a_label (named_label h no_atts c)) p.1))

  pub row_claim_name_2 : {ts us : List Lexeme} → Means (LEFT ∷ Goes P.Att ∷ Goes P.MoreAtts ∷ RIGHT ∷ COLON ∷ Goes P.Prop ∷ []) ts us → MeansPart P.ClaimName ts us
  row_claim_name_2 (token A a (phrase x (phrase xs (token B b (token C c (phrase p end)))))) = (λ n h. (_, claim (a_label (named_label h (some_atts (atts a x.1 xs.1 b)) c)) p.1))

  pub row_claim_name_3 : {ts us : List Lexeme} → Means (OPEN ∷ IS ∷ TERM ∷ Goes P.Terms ∷ CLOSE ∷ []) ts us → MeansPart P.ClaimName ts us
  row_claim_name_3 (token A a (token W w (token T t (phrase xs (token B b end))))) = (λ n h. (_, claim no_label (prop (name_term law n h) (patterns a w t xs.1 b))))

  pub part_claim_name : (r : List Symbol) → IsIn r (forms P.ClaimName) → {ts us : List Lexeme} → Means r ts us → MeansPart P.ClaimName ts us
  part_claim_name r (inl e) {ts = ts} {us = us} m = row_claim_name_0 (subst (λ q. Means q ts us) e m)
  part_claim_name r (inr (inl e)) {ts = ts} {us = us} m = row_claim_name_1 (subst (λ q. Means q ts us) e m)
  part_claim_name r (inr (inr (inl e))) {ts = ts} {us = us} m = row_claim_name_2 (subst (λ q. Means q ts us) e m)
  part_claim_name r (inr (inr (inr (inl e)))) {ts = ts} {us = us} m = row_claim_name_3 (subst (λ q. Means q ts us) e m)
  part_claim_name r (inr (inr (inr (inr (e))))) m = elim e [ ]

  pub row_props_0 : {ts us : List Lexeme} → Means (NAME ∷ Goes P.PropsName ∷ []) ts us → MeansPart P.Props ts us
  row_props_0 (token N n (phrase f end)) = f N n

  pub row_props_1 : {ts us : List Lexeme} → Means (LEFT ∷ Goes P.Att ∷ Goes P.MoreAtts ∷ RIGHT ∷ COLON ∷ TERM ∷ Goes P.Pattern ∷ Goes P.MoreProps ∷ []) ts us → MeansPart P.Props ts us
  row_props_1 (token A a (phrase x (phrase xs (token B b (token C c (token T t (phrase ps (phrase r end)))))))) = (_, props (group (a_label (bare_label (atts a x.1 xs.1 b) c)) (prop t ps.1) r.3) r.4)

  pub row_props_2 : {ts us : List Lexeme} → Means (NO_NAME ∷ Goes P.Pattern ∷ Goes P.MoreProps ∷ []) ts us → MeansPart P.Props ts us
  row_props_2 (token T t (phrase ps (phrase r end))) = (_, props (group no_label (prop (within law sort.NoName sort.Term refl T t) ps.1) r.3) r.4)

  pub part_props : (r : List Symbol) → IsIn r (forms P.Props) → {ts us : List Lexeme} → Means r ts us → MeansPart P.Props ts us
  part_props r (inl e) {ts = ts} {us = us} m = row_props_0 (subst (λ q. Means q ts us) e m)
  part_props r (inr (inl e)) {ts = ts} {us = us} m = row_props_1 (subst (λ q. Means q ts us) e m)
  part_props r (inr (inr (inl e))) {ts = ts} {us = us} m = row_props_2 (subst (λ q. Means q ts us) e m)
  part_props r (inr (inr (inr (e)))) m = elim e [ ]

  pub row_props_name_0 : {ts us : List Lexeme} → Means ([]) ts us → MeansPart P.PropsName ts us
  row_props_name_0 end = (λ n h. (_, props (group no_label (prop (name_term law n h) no_patterns) no_more_props) no_more_groups))

  pub row_props_name_1 : {ts us : List Lexeme} → Means (COLON ∷ TERM ∷ Goes P.Pattern ∷ Goes P.MoreProps ∷ []) ts us → MeansPart P.PropsName ts us
  row_props_name_1 (token C c (token T t (phrase ps (phrase r end)))) = (λ n h. (_, props (group (a_label (named_label h no_atts c)) (prop t ps.1) r.3) r.4))

  pub row_props_name_2 : {ts us : List Lexeme} → Means (LEFT ∷ Goes P.Att ∷ Goes P.MoreAtts ∷ RIGHT ∷ COLON ∷ TERM ∷ Goes P.Pattern ∷ Goes P.MoreProps ∷ []) ts us → MeansPart P.PropsName ts us
  row_props_name_2 (token A a (phrase x (phrase xs (token B b (token C c (token T t (phrase ps (phrase r end)))))))) = (λ n h. (_, props (group (a_label (named_label h (some_atts (atts a x.1 xs.1 b)) c)) (prop t ps.1) r.3) r.4))

  pub row_props_name_3 : {ts us : List Lexeme} → Means (OPEN ∷ IS ∷ TERM ∷ Goes P.Terms ∷ CLOSE ∷ Goes P.MoreProps ∷ []) ts us → MeansPart P.PropsName ts us
  row_props_name_3 (token A a (token W w (token T t (phrase xs (token B b (phrase r end)))))) = (λ n h. (_, props (group no_label (prop (name_term law n h) (patterns a w t xs.1 b)) r.3) r.4))

  pub row_props_name_4 : {ts us : List Lexeme} → Means (TERM ∷ Goes P.Pattern ∷ Goes P.MoreProps ∷ []) ts us → MeansPart P.PropsName ts us
  row_props_name_4 (token T t (phrase ps (phrase r end))) = (λ n h. (_, props (group no_label (prop (name_term law n h) no_patterns) (more_props (prop t ps.1) r.3)) r.4))

  pub row_props_name_5 : {ts us : List Lexeme} → Means (AND ∷ Goes P.Props ∷ []) ts us → MeansPart P.PropsName ts us
  row_props_name_5 (token A a (phrase g end)) = (λ n h. (_, props (group no_label (prop (name_term law n h) no_patterns) no_more_props) (and_props a g.1)))

  pub part_props_name : (r : List Symbol) → IsIn r (forms P.PropsName) → {ts us : List Lexeme} → Means r ts us → MeansPart P.PropsName ts us
  part_props_name r (inl e) {ts = ts} {us = us} m = row_props_name_0 (subst (λ q. Means q ts us) e m)
  part_props_name r (inr (inl e)) {ts = ts} {us = us} m = row_props_name_1 (subst (λ q. Means q ts us) e m)
  part_props_name r (inr (inr (inl e))) {ts = ts} {us = us} m = row_props_name_2 (subst (λ q. Means q ts us) e m)
  part_props_name r (inr (inr (inr (inl e)))) {ts = ts} {us = us} m = row_props_name_3 (subst (λ q. Means q ts us) e m)
  part_props_name r (inr (inr (inr (inr (inl e))))) {ts = ts} {us = us} m = row_props_name_4 (subst (λ q. Means q ts us) e m)
  part_props_name r (inr (inr (inr (inr (inr (inl e)))))) {ts = ts} {us = us} m = row_props_name_5 (subst (λ q. Means q ts us) e m)
  part_props_name r (inr (inr (inr (inr (inr (inr (e))))))) m = elim e [ ]

  pub row_more_props_0 : {ts us : List Lexeme} → Means ([]) ts us → MeansPart P.MoreProps ts us
  row_more_props_0 end = (_, _, _, no_more_props, no_more_groups)

  pub row_more_props_1 : {ts us : List Lexeme} → Means (TERM ∷ Goes P.Pattern ∷ Goes P.MoreProps ∷ []) ts us → MeansPart P.MoreProps ts us
  row_more_props_1 (token T t (phrase ps (phrase r end))) = (_, _, _, more_props (prop t ps.1) r.3, r.4)

  pub row_more_props_2 : {ts us : List Lexeme} → Means (AND ∷ Goes P.Props ∷ []) ts us → MeansPart P.MoreProps ts us
  row_more_props_2 (token A a (phrase g end)) = (_, _, _, no_more_props, and_props a g.1)

  pub part_more_props : (r : List Symbol) → IsIn r (forms P.MoreProps) → {ts us : List Lexeme} → Means r ts us → MeansPart P.MoreProps ts us
  part_more_props r (inl e) {ts = ts} {us = us} m = row_more_props_0 (subst (λ q. Means q ts us) e m)
  part_more_props r (inr (inl e)) {ts = ts} {us = us} m = row_more_props_1 (subst (λ q. Means q ts us) e m)
  part_more_props r (inr (inr (inl e))) {ts = ts} {us = us} m = row_more_props_2 (subst (λ q. Means q ts us) e m)
  part_more_props r (inr (inr (inr (e)))) m = elim e [ ]

  pub row_labelled_term_0 : {ts us : List Lexeme} → Means (NAME ∷ Goes P.TermName ∷ []) ts us → MeansPart P.LabelledTerm ts us
  row_labelled_term_0 (token N n (phrase f end)) = f N n

  pub row_labelled_term_1 : {ts us : List Lexeme} → Means (LEFT ∷ Goes P.Att ∷ Goes P.MoreAtts ∷ RIGHT ∷ COLON ∷ TERM ∷ []) ts us → MeansPart P.LabelledTerm ts us
  row_labelled_term_1 (token A a (phrase x (phrase xs (token B b (token C c (token T t end)))))) = (_, T, a_label (bare_label (atts a x.1 xs.1 b) c), t)

  pub row_labelled_term_2 : {ts us : List Lexeme} → Means (NO_NAME ∷ []) ts us → MeansPart P.LabelledTerm ts us
  row_labelled_term_2 (token T t end) = (_, T, no_label, within law sort.NoName sort.Term refl T t)

  pub part_labelled_term : (r : List Symbol) → IsIn r (forms P.LabelledTerm) → {ts us : List Lexeme} → Means r ts us → MeansPart P.LabelledTerm ts us
  part_labelled_term r (inl e) {ts = ts} {us = us} m = row_labelled_term_0 (subst (λ q. Means q ts us) e m)
  part_labelled_term r (inr (inl e)) {ts = ts} {us = us} m = row_labelled_term_1 (subst (λ q. Means q ts us) e m)
  part_labelled_term r (inr (inr (inl e))) {ts = ts} {us = us} m = row_labelled_term_2 (subst (λ q. Means q ts us) e m)
  part_labelled_term r (inr (inr (inr (e)))) m = elim e [ ]

  pub row_term_name_0 : {ts us : List Lexeme} → Means ([]) ts us → MeansPart P.TermName ts us
  row_term_name_0 end = (λ n h. (_, n, no_label, name_term law n h))

  pub row_term_name_1 : {ts us : List Lexeme} → Means (COLON ∷ TERM ∷ []) ts us → MeansPart P.TermName ts us
  row_term_name_1 (token C c (token T t end)) = (λ n h. (_, T, a_label (named_label h no_atts c), t))

  pub row_term_name_2 : {ts us : List Lexeme} → Means (LEFT ∷ Goes P.Att ∷ Goes P.MoreAtts ∷ RIGHT ∷ COLON ∷ TERM ∷ []) ts us → MeansPart P.TermName ts us
  row_term_name_2 (token A a (phrase x (phrase xs (token B b (token C c (token T t end)))))) = (λ n h. (_, T, a_label (named_label h (some_atts (atts a x.1 xs.1 b)) c), t))

  pub part_term_name : (r : List Symbol) → IsIn r (forms P.TermName) → {ts us : List Lexeme} → Means r ts us → MeansPart P.TermName ts us
  part_term_name r (inl e) {ts = ts} {us = us} m = row_term_name_0 (subst (λ q. Means q ts us) e m)
  part_term_name r (inr (inl e)) {ts = ts} {us = us} m = row_term_name_1 (subst (λ q. Means q ts us) e m)
  part_term_name r (inr (inr (inl e))) {ts = ts} {us = us} m = row_term_name_2 (subst (λ q. Means q ts us) e m)
  part_term_name r (inr (inr (inr (e)))) m = elim e [ ]

  pub row_names_0 : {ts us : List Lexeme} → Means ([]) ts us → MeansPart P.Names ts us
  row_names_0 end = (_, no_more)

  pub row_names_1 : {ts us : List Lexeme} → Means (NAME ∷ Goes P.Names ∷ []) ts us → MeansPart P.Names ts us
  row_names_1 (token N n (phrase xs end)) = (_, one_more n xs.1)

  pub part_names : (r : List Symbol) → IsIn r (forms P.Names) → {ts us : List Lexeme} → Means r ts us → MeansPart P.Names ts us
  part_names r (inl e) {ts = ts} {us = us} m = row_names_0 (subst (λ q. Means q ts us) e m)
  part_names r (inr (inl e)) {ts = ts} {us = us} m = row_names_1 (subst (λ q. Means q ts us) e m)
  part_names r (inr (inr (e))) m = elim e [ ]

  pub row_idents_0 : {ts us : List Lexeme} → Means ([]) ts us → MeansPart P.Idents ts us
  row_idents_0 end = (_, no_more)

  pub row_idents_1 : {ts us : List Lexeme} → Means (IDENTIFIER ∷ Goes P.Idents ∷ []) ts us → MeansPart P.Idents ts us
  row_idents_1 (token X x (phrase xs end)) = (_, one_more x xs.1)

  pub part_idents : (r : List Symbol) → IsIn r (forms P.Idents) → {ts us : List Lexeme} → Means r ts us → MeansPart P.Idents ts us
  part_idents r (inl e) {ts = ts} {us = us} m = row_idents_0 (subst (λ q. Means q ts us) e m)
  part_idents r (inr (inl e)) {ts = ts} {us = us} m = row_idents_1 (subst (λ q. Means q ts us) e m)
  part_idents r (inr (inr (e))) m = elim e [ ]

  pub row_of_type_0 : {ts us : List Lexeme} → Means ([]) ts us → MeansPart P.OfType ts us
  row_of_type_0 end = (_, no_type)

  pub row_of_type_1 : {ts us : List Lexeme} → Means (COLONS ∷ TYPE ∷ []) ts us → MeansPart P.OfType ts us
  row_of_type_1 (token C c (token T t end)) = (_, of_type c t)

  pub part_of_type : (r : List Symbol) → IsIn r (forms P.OfType) → {ts us : List Lexeme} → Means r ts us → MeansPart P.OfType ts us
  part_of_type r (inl e) {ts = ts} {us = us} m = row_of_type_0 (subst (λ q. Means q ts us) e m)
  part_of_type r (inr (inl e)) {ts = ts} {us = us} m = row_of_type_1 (subst (λ q. Means q ts us) e m)
  part_of_type r (inr (inr (e))) m = elim e [ ]

  pub row_vars_0 : {ts us : List Lexeme} → Means (IDENTIFIER ∷ Goes P.Idents ∷ Goes P.OfType ∷ Goes P.MoreVars ∷ []) ts us → MeansPart P.Vars ts us
  row_vars_0 (token X x (phrase xs (phrase t (phrase gs end)))) = (_, vars (var_group x xs.1 t.1) gs.1)

  pub part_vars : (r : List Symbol) → IsIn r (forms P.Vars) → {ts us : List Lexeme} → Means r ts us → MeansPart P.Vars ts us
  part_vars r (inl e) {ts = ts} {us = us} m = row_vars_0 (subst (λ q. Means q ts us) e m)
  part_vars r (inr (e)) m = elim e [ ]

  pub row_more_vars_0 : {ts us : List Lexeme} → Means ([]) ts us → MeansPart P.MoreVars ts us
  row_more_vars_0 end = (_, no_more_vars)

  pub row_more_vars_1 : {ts us : List Lexeme} → Means (AND ∷ IDENTIFIER ∷ Goes P.Idents ∷ Goes P.OfType ∷ Goes P.MoreVars ∷ []) ts us → MeansPart P.MoreVars ts us
  row_more_vars_1 (token A a (token X x (phrase xs (phrase t (phrase gs end))))) = (_, more_vars a (var_group x xs.1 t.1) gs.1)

  pub part_more_vars : (r : List Symbol) → IsIn r (forms P.MoreVars) → {ts us : List Lexeme} → Means r ts us → MeansPart P.MoreVars ts us
  part_more_vars r (inl e) {ts = ts} {us = us} m = row_more_vars_0 (subst (λ q. Means q ts us) e m)
  part_more_vars r (inr (inl e)) {ts = ts} {us = us} m = row_more_vars_1 (subst (λ q. Means q ts us) e m)
  part_more_vars r (inr (inr (e))) m = elim e [ ]

  pub row_opt_for_0 : {ts us : List Lexeme} → Means ([]) ts us → MeansPart P.OptFor ts us
  row_opt_for_0 end = (_, no_for)

  pub row_opt_for_1 : {ts us : List Lexeme} → Means (FOR ∷ Goes P.Vars ∷ []) ts us → MeansPart P.OptFor ts us
  row_opt_for_1 (token W w (phrase g end)) = (_, for_vars w g.1)

  pub part_opt_for : (r : List Symbol) → IsIn r (forms P.OptFor) → {ts us : List Lexeme} → Means r ts us → MeansPart P.OptFor ts us
  part_opt_for r (inl e) {ts = ts} {us = us} m = row_opt_for_0 (subst (λ q. Means q ts us) e m)
  part_opt_for r (inr (inl e)) {ts = ts} {us = us} m = row_opt_for_1 (subst (λ q. Means q ts us) e m)
  part_opt_for r (inr (inr (e))) m = elim e [ ]

  pub row_const_0 : {ts us : List Lexeme} → Means (IDENTIFIER ∷ COLONS ∷ TYPE ∷ Goes P.Fix ∷ []) ts us → MeansPart P.Const ts us
  row_const_0 (token X x (token C c (token T t (phrase f end)))) = (_, const x c t f.1)

  pub part_const : (r : List Symbol) → IsIn r (forms P.Const) → {ts us : List Lexeme} → Means r ts us → MeansPart P.Const ts us
  part_const r (inl e) {ts = ts} {us = us} m = row_const_0 (subst (λ q. Means q ts us) e m)
  part_const r (inr (e)) m = elim e [ ]

  pub row_fix_0 : {ts us : List Lexeme} → Means ([]) ts us → MeansPart P.Fix ts us
  row_fix_0 end = (_, no_fix)

  pub row_fix_1 : {ts us : List Lexeme} → Means (OPEN ∷ Goes P.Fixity ∷ CLOSE ∷ []) ts us → MeansPart P.Fix ts us
  row_fix_1 (token A a (phrase f (token B b end))) = (_, fix_is a f.1 b)

  pub part_fix : (r : List Symbol) → IsIn r (forms P.Fix) → {ts us : List Lexeme} → Means r ts us → MeansPart P.Fix ts us
  part_fix r (inl e) {ts = ts} {us = us} m = row_fix_0 (subst (λ q. Means q ts us) e m)
  part_fix r (inr (inl e)) {ts = ts} {us = us} m = row_fix_1 (subst (λ q. Means q ts us) e m)
  part_fix r (inr (inr (e))) m = elim e [ ]

  pub row_fixity_0 : {ts us : List Lexeme} → Means (PLAIN ∷ []) ts us → MeansPart P.Fixity ts us
  row_fixity_0 (token S s end) = (_, plain s)

  pub row_fixity_1 : {ts us : List Lexeme} → Means (PREFIX ∷ LEFT ∷ PRIORITY ∷ RIGHT ∷ PRIORITY ∷ []) ts us → MeansPart P.Fixity ts us
  row_fixity_1 (token S s (token A a (token N n (token B b (token M m end))))) = (_, prefix s a n b m)

  pub row_fixity_2 : {ts us : List Lexeme} → Means (INFIX ∷ PLAIN ∷ LOW ∷ []) ts us → MeansPart P.Fixity ts us
  row_fixity_2 (token W w (token S s (token N n end))) = (_, infix_is w s n)

  pub row_fixity_3 : {ts us : List Lexeme} → Means (INFIXL ∷ PLAIN ∷ LOW ∷ []) ts us → MeansPart P.Fixity ts us
  row_fixity_3 (token W w (token S s (token N n end))) = (_, infixl_is w s n)

  pub row_fixity_4 : {ts us : List Lexeme} → Means (INFIXR ∷ PLAIN ∷ LOW ∷ []) ts us → MeansPart P.Fixity ts us
  row_fixity_4 (token W w (token S s (token N n end))) = (_, infixr_is w s n)

  pub row_fixity_5 : {ts us : List Lexeme} → Means (BINDER ∷ BINDING ∷ PRIORITY ∷ []) ts us → MeansPart P.Fixity ts us
  row_fixity_5 (token W w (token S s (token N n end))) = (_, binder w s n)

  pub part_fixity : (r : List Symbol) → IsIn r (forms P.Fixity) → {ts us : List Lexeme} → Means r ts us → MeansPart P.Fixity ts us
  part_fixity r (inl e) {ts = ts} {us = us} m = row_fixity_0 (subst (λ q. Means q ts us) e m)
  part_fixity r (inr (inl e)) {ts = ts} {us = us} m = row_fixity_1 (subst (λ q. Means q ts us) e m)
  part_fixity r (inr (inr (inl e))) {ts = ts} {us = us} m = row_fixity_2 (subst (λ q. Means q ts us) e m)
  part_fixity r (inr (inr (inr (inl e)))) {ts = ts} {us = us} m = row_fixity_3 (subst (λ q. Means q ts us) e m)
  part_fixity r (inr (inr (inr (inr (inl e))))) {ts = ts} {us = us} m = row_fixity_4 (subst (λ q. Means q ts us) e m)
  part_fixity r (inr (inr (inr (inr (inr (inl e)))))) {ts = ts} {us = us} m = row_fixity_5 (subst (λ q. Means q ts us) e m)
  part_fixity r (inr (inr (inr (inr (inr (inr (e))))))) m = elim e [ ]
