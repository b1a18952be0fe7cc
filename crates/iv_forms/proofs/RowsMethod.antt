-- Written by tools/outer_means.py from tools/meanings.txt.
-- What the rows of the table mean.
use Rattle.std.proofs.Common.{List, [], ◌∷◌, refl, subst, inl, inr}
use Rattle.iv_recogniser.specs.declared.class.Class.TheVariants as class
use Rattle.iv_recogniser.specs.declared.class.Sort.TheVariants as sort
use Rattle.iv_recogniser.specs.declared.part.Part.TheVariants as P
use Rattle.iv_recogniser.specs.declared.part.Symbol.{Symbol}
use Rattle.iv_recogniser.specs.declared.part.Symbol.TheVariants.{Goes}
use Rattle.iv_recogniser.specs.Table.{AND, ARROW, BAR, CALL_NAME, CASE_BAR, CLOSE, COLON, COMMA, CONCLUSION, CUT, IDENTIFIER, IN, INTO, LEFT, LONG, MATCH, MINUS, NAME, NO_IDENT, NUMERAL, OPEN, OUT_OF, PLUS, PREMISES, QUESTION, RIGHT, RULE, SEMICOLON, SUBJECT_NAME, TERM}
use Rattle.iv_forms.specs.declared.method.MethodText.TheVariants as VMethod
use Rattle.iv_forms.specs.declared.lexeme.Lexeme.{Lexeme}
use Rattle.iv_forms.specs.FactForm.{and_facts, atts, fact, facts, more_facts, no_atts, no_more_facts, no_sels, sels, some_atts}
use Rattle.iv_forms.specs.MethodForm.{a_cut, a_method, arg_method, arg_term, args, case_is, cases, core_dash, core_name, first, item_call, item_match, item_method, item_rule, method, more_cases, more_patterns, named_pattern, no_args, no_bar, no_comma, no_cut, no_method, no_more_cases, no_more_patterns, no_sections, no_semicolon, no_suffix, other_name, pattern_, repeat, section, sections, subject_facts, subject_term, try, with_atts, with_facts, with_sels}
use Rattle.iv_forms.specs.CommandForm.{none_given, one_given}
use Rattle.iv_forms.proofs.Sorts.{Law, ident_name, ident_term, long_name, no_ident_term, within, word_name}
use Rattle.iv_forms.proofs.Means.{Means, MeansPart, call_args, call_sections, end, phrase, token}
use Rattle.iv_forms.proofs.Helpers.{alt_of, args_of, bar_of, bare, call_after, comma_of, fact_then, item_of, opt_nat, paren_of, semi_of, semicolon_of, seq_of, word_alone}
use Rattle.iv_recogniser.specs.Table.{forms}
use Rattle.iv_recogniser.specs.Spell.{IsIn}

module _ (law : Law) where
  pub row_method_0 : {ts us : List Lexeme} → Means (NAME ∷ Goes P.Suffix ∷ []) ts us → MeansPart P.Method ts us
  row_method_0 (token N n (phrase f end)) = (_, method (core_name n) (f (VMethod.Name N.token)).1)

  pub row_method_1 : {ts us : List Lexeme} → Means (MINUS ∷ Goes P.Suffix ∷ []) ts us → MeansPart P.Method ts us
  row_method_1 (token D d (phrase f end)) = (_, method (core_dash d) (f VMethod.Dash).1)

  pub row_method_2 : {ts us : List Lexeme} → Means (OPEN ∷ Goes P.Item ∷ Goes P.MoreSeq ∷ Goes P.MoreSemi ∷ Goes P.MoreAlt ∷ CLOSE ∷ Goes P.Suffix ∷ []) ts us → MeansPart P.Method ts us
  row_method_2 (token A a (phrase i (phrase p (phrase q (phrase r (token B b (phrase f end))))))) = paren_of a (alt_of i p q r) b f

  pub part_method : (r : List Symbol) → IsIn r (forms P.Method) → {ts us : List Lexeme} → Means r ts us → MeansPart P.Method ts us
  part_method r (inl e) {ts = ts} {us = us} m = row_method_0 (subst (λ q. Means q ts us) e m)
  part_method r (inr (inl e)) {ts = ts} {us = us} m = row_method_1 (subst (λ q. Means q ts us) e m)
  part_method r (inr (inr (inl e))) {ts = ts} {us = us} m = row_method_2 (subst (λ q. Means q ts us) e m)
  part_method r (inr (inr (inr (e)))) m = elim e [ ]

  pub row_opt_method_0 : {ts us : List Lexeme} → Means ([]) ts us → MeansPart P.OptMethod ts us
  row_opt_method_0 end = (_, no_method)

  pub row_opt_method_1 : {ts us : List Lexeme} → Means (NAME ∷ Goes P.Suffix ∷ []) ts us → MeansPart P.OptMethod ts us
  row_opt_method_1 (token N n (phrase f end)) = (_, a_method (method (core_name n) (f (VMethod.Name N.token)).1))

  pub row_opt_method_2 : {ts us : List Lexeme} → Means (MINUS ∷ Goes P.Suffix ∷ []) ts us → MeansPart P.OptMethod ts us
  row_opt_method_2 (token D d (phrase f end)) = (_, a_method (method (core_dash d) (f VMethod.Dash).1))

  pub row_opt_method_3 : {ts us : List Lexeme} → Means (OPEN ∷ Goes P.Item ∷ Goes P.MoreSeq ∷ Goes P.MoreSemi ∷ Goes P.MoreAlt ∷ CLOSE ∷ Goes P.Suffix ∷ []) ts us → MeansPart P.OptMethod ts us
  row_opt_method_3 (token A a (phrase i (phrase p (phrase q (phrase r (token B b (phrase f end))))))) = (_, a_method (paren_of a (alt_of i p q r) b f).1)

  pub part_opt_method : (r : List Symbol) → IsIn r (forms P.OptMethod) → {ts us : List Lexeme} → Means r ts us → MeansPart P.OptMethod ts us
  part_opt_method r (inl e) {ts = ts} {us = us} m = row_opt_method_0 (subst (λ q. Means q ts us) e m)
  part_opt_method r (inr (inl e)) {ts = ts} {us = us} m = row_opt_method_1 (subst (λ q. Means q ts us) e m)
  part_opt_method r (inr (inr (inl e))) {ts = ts} {us = us} m = row_opt_method_2 (subst (λ q. Means q ts us) e m)
  part_opt_method r (inr (inr (inr (inl e)))) {ts = ts} {us = us} m = row_opt_method_3 (subst (λ q. Means q ts us) e m)
  part_opt_method r (inr (inr (inr (inr (e))))) m = elim e [ ]

  pub row_suffix_0 : {ts us : List Lexeme} → Means ([]) ts us → MeansPart P.Suffix ts us
  row_suffix_0 end = (λ m. (m, no_suffix))

  pub row_suffix_1 : {ts us : List Lexeme} → Means (QUESTION ∷ []) ts us → MeansPart P.Suffix ts us
  row_suffix_1 (token Q q end) = (λ m. (VMethod.Try m, try q))

  pub row_suffix_2 : {ts us : List Lexeme} → Means (PLUS ∷ []) ts us → MeansPart P.Suffix ts us
  row_suffix_2 (token Q q end) = (λ m. (VMethod.Repeat m, repeat q))

  pub row_suffix_3 : {ts us : List Lexeme} → Means (LEFT ∷ Goes P.OptNat ∷ RIGHT ∷ []) ts us → MeansPart P.Suffix ts us
  row_suffix_3 (token A a (phrase n (token B b end))) = (λ m. (_, first a (opt_nat n.1) b))

  pub part_suffix : (r : List Symbol) → IsIn r (forms P.Suffix) → {ts us : List Lexeme} → Means r ts us → MeansPart P.Suffix ts us
  part_suffix r (inl e) {ts = ts} {us = us} m = row_suffix_0 (subst (λ q. Means q ts us) e m)
  part_suffix r (inr (inl e)) {ts = ts} {us = us} m = row_suffix_1 (subst (λ q. Means q ts us) e m)
  part_suffix r (inr (inr (inl e))) {ts = ts} {us = us} m = row_suffix_2 (subst (λ q. Means q ts us) e m)
  part_suffix r (inr (inr (inr (inl e)))) {ts = ts} {us = us} m = row_suffix_3 (subst (λ q. Means q ts us) e m)
  part_suffix r (inr (inr (inr (inr (e))))) m = elim e [ ]

  pub row_opt_nat_0 : {ts us : List Lexeme} → Means ([]) ts us → MeansPart P.OptNat ts us
  row_opt_nat_0 end = (_, none_given)

  pub row_opt_nat_1 : {ts us : List Lexeme} → Means (NUMERAL ∷ []) ts us → MeansPart P.OptNat ts us
  row_opt_nat_1 (token N n end) = (_, one_given n)

  pub part_opt_nat : (r : List Symbol) → IsIn r (forms P.OptNat) → {ts us : List Lexeme} → Means r ts us → MeansPart P.OptNat ts us
  part_opt_nat r (inl e) {ts = ts} {us = us} m = row_opt_nat_0 (subst (λ q. Means q ts us) e m)
  part_opt_nat r (inr (inl e)) {ts = ts} {us = us} m = row_opt_nat_1 (subst (λ q. Means q ts us) e m)
  part_opt_nat r (inr (inr (e))) m = elim e [ ]

  pub row_more_alt_0 : {ts us : List Lexeme} → Means ([]) ts us → MeansPart P.MoreAlt ts us
  row_more_alt_0 end = (λ m. (m, no_bar))

  pub row_more_alt_1 : {ts us : List Lexeme} → Means (BAR ∷ Goes P.Item ∷ Goes P.MoreSeq ∷ Goes P.MoreSemi ∷ Goes P.MoreAlt ∷ []) ts us → MeansPart P.MoreAlt ts us
  row_more_alt_1 (token C c (phrase i (phrase p (phrase q (phrase r end))))) = (λ m. bar_of m c (semi_of i p q) r)

  pub part_more_alt : (r : List Symbol) → IsIn r (forms P.MoreAlt) → {ts us : List Lexeme} → Means r ts us → MeansPart P.MoreAlt ts us
  part_more_alt r (inl e) {ts = ts} {us = us} m = row_more_alt_0 (subst (λ q. Means q ts us) e m)
  part_more_alt r (inr (inl e)) {ts = ts} {us = us} m = row_more_alt_1 (subst (λ q. Means q ts us) e m)
  part_more_alt r (inr (inr (e))) m = elim e [ ]

  pub row_more_semi_0 : {ts us : List Lexeme} → Means ([]) ts us → MeansPart P.MoreSemi ts us
  row_more_semi_0 end = (λ m. (m, no_semicolon))

  pub row_more_semi_1 : {ts us : List Lexeme} → Means (SEMICOLON ∷ Goes P.Item ∷ Goes P.MoreSeq ∷ Goes P.MoreSemi ∷ []) ts us → MeansPart P.MoreSemi ts us
  row_more_semi_1 (token C c (phrase i (phrase p (phrase q end)))) = (λ m. semicolon_of m c (seq_of i p) q)

  pub part_more_semi : (r : List Symbol) → IsIn r (forms P.MoreSemi) → {ts us : List Lexeme} → Means r ts us → MeansPart P.MoreSemi ts us
  part_more_semi r (inl e) {ts = ts} {us = us} m = row_more_semi_0 (subst (λ q. Means q ts us) e m)
  part_more_semi r (inr (inl e)) {ts = ts} {us = us} m = row_more_semi_1 (subst (λ q. Means q ts us) e m)
  part_more_semi r (inr (inr (e))) m = elim e [ ]

  pub row_more_seq_0 : {ts us : List Lexeme} → Means ([]) ts us → MeansPart P.MoreSeq ts us
  row_more_seq_0 end = (λ m. (m, no_comma))

  pub row_more_seq_1 : {ts us : List Lexeme} → Means (COMMA ∷ Goes P.Item ∷ Goes P.MoreSeq ∷ []) ts us → MeansPart P.MoreSeq ts us
  row_more_seq_1 (token C c (phrase i (phrase p end))) = (λ m. comma_of m c i p)

  pub part_more_seq : (r : List Symbol) → IsIn r (forms P.MoreSeq) → {ts us : List Lexeme} → Means r ts us → MeansPart P.MoreSeq ts us
  part_more_seq r (inl e) {ts = ts} {us = us} m = row_more_seq_0 (subst (λ q. Means q ts us) e m)
  part_more_seq r (inr (inl e)) {ts = ts} {us = us} m = row_more_seq_1 (subst (λ q. Means q ts us) e m)
  part_more_seq r (inr (inr (e))) m = elim e [ ]

  pub row_item_0 : {ts us : List Lexeme} → Means (RULE ∷ Goes P.RuleRest ∷ []) ts us → MeansPart P.Item ts us
  row_item_0 (token W w (phrase f end)) = f W w

  pub row_item_1 : {ts us : List Lexeme} → Means (MATCH ∷ Goes P.MatchRest ∷ []) ts us → MeansPart P.Item ts us
  row_item_1 (token W w (phrase f end)) = f W w

  pub row_item_2 : {ts us : List Lexeme} → Means (CALL_NAME ∷ Goes P.CallRest ∷ []) ts us → MeansPart P.Item ts us
  row_item_2 (token N n (phrase f end)) = f N n

  pub row_item_3 : {ts us : List Lexeme} → Means (MINUS ∷ Goes P.Suffix ∷ []) ts us → MeansPart P.Item ts us
  row_item_3 (token D d (phrase f end)) = (_, item_method (method (core_dash d) (f VMethod.Dash).1))

  pub row_item_4 : {ts us : List Lexeme} → Means (OPEN ∷ Goes P.Item ∷ Goes P.MoreSeq ∷ Goes P.MoreSemi ∷ Goes P.MoreAlt ∷ CLOSE ∷ Goes P.Suffix ∷ []) ts us → MeansPart P.Item ts us
  row_item_4 (token A a (phrase i (phrase p (phrase q (phrase r (token B b (phrase f end))))))) = (_, item_method (paren_of a (alt_of i p q r) b f).1)

  pub part_item : (r : List Symbol) → IsIn r (forms P.Item) → {ts us : List Lexeme} → Means r ts us → MeansPart P.Item ts us
  part_item r (inl e) {ts = ts} {us = us} m = row_item_0 (subst (λ q. Means q ts us) e m)
  part_item r (inr (inl e)) {ts = ts} {us = us} m = row_item_1 (subst (λ q. Means q ts us) e m)
  part_item r (inr (inr (inl e))) {ts = ts} {us = us} m = row_item_2 (subst (λ q. Means q ts us) e m)
  part_item r (inr (inr (inr (inl e)))) {ts = ts} {us = us} m = row_item_3 (subst (λ q. Means q ts us) e m)
  part_item r (inr (inr (inr (inr (inl e))))) {ts = ts} {us = us} m = row_item_4 (subst (λ q. Means q ts us) e m)
  part_item r (inr (inr (inr (inr (inr (e)))))) m = elim e [ ]

  pub row_rule_rest_0 : {ts us : List Lexeme} → Means ([]) ts us → MeansPart P.RuleRest ts us
  row_rule_rest_0 end = (λ w h. (_, bare (within law (sort.Only class.Rule) sort.Name refl w h) no_suffix))

  pub row_rule_rest_1 : {ts us : List Lexeme} → Means (QUESTION ∷ []) ts us → MeansPart P.RuleRest ts us
  row_rule_rest_1 (token Q q end) = (λ w h. (_, bare (within law (sort.Only class.Rule) sort.Name refl w h) (try q)))

  pub row_rule_rest_2 : {ts us : List Lexeme} → Means (PLUS ∷ []) ts us → MeansPart P.RuleRest ts us
  row_rule_rest_2 (token Q q end) = (λ w h. (_, bare (within law (sort.Only class.Rule) sort.Name refl w h) (repeat q)))

  pub row_rule_rest_3 : {ts us : List Lexeme} → Means (LEFT ∷ Goes P.OptNat ∷ RIGHT ∷ []) ts us → MeansPart P.RuleRest ts us
  row_rule_rest_3 (token A a (phrase n (token B b end))) = (λ w h. (_, bare (within law (sort.Only class.Rule) sort.Name refl w h) (first a (opt_nat n.1) b)))

  pub row_rule_rest_4 : {ts us : List Lexeme} → Means (NAME ∷ Goes P.Sels ∷ Goes P.OptAtts ∷ Goes P.MoreFacts ∷ []) ts us → MeansPart P.RuleRest ts us
  row_rule_rest_4 (token N n (phrase ss (phrase xs (phrase fs end)))) = (λ w h. (_, item_rule h (facts (fact n ss.1 xs.1) fs.1)))

  pub part_rule_rest : (r : List Symbol) → IsIn r (forms P.RuleRest) → {ts us : List Lexeme} → Means r ts us → MeansPart P.RuleRest ts us
  part_rule_rest r (inl e) {ts = ts} {us = us} m = row_rule_rest_0 (subst (λ q. Means q ts us) e m)
  part_rule_rest r (inr (inl e)) {ts = ts} {us = us} m = row_rule_rest_1 (subst (λ q. Means q ts us) e m)
  part_rule_rest r (inr (inr (inl e))) {ts = ts} {us = us} m = row_rule_rest_2 (subst (λ q. Means q ts us) e m)
  part_rule_rest r (inr (inr (inr (inl e)))) {ts = ts} {us = us} m = row_rule_rest_3 (subst (λ q. Means q ts us) e m)
  part_rule_rest r (inr (inr (inr (inr (inl e))))) {ts = ts} {us = us} m = row_rule_rest_4 (subst (λ q. Means q ts us) e m)
  part_rule_rest r (inr (inr (inr (inr (inr (e)))))) m = elim e [ ]

  pub row_call_rest_0 : {ts us : List Lexeme} → Means ([]) ts us → MeansPart P.CallRest ts us
  row_call_rest_0 end = (λ w h. (_, bare (within law sort.CallName sort.Name refl w h) no_suffix))

  pub row_call_rest_1 : {ts us : List Lexeme} → Means (QUESTION ∷ []) ts us → MeansPart P.CallRest ts us
  row_call_rest_1 (token Q q end) = (λ w h. (_, bare (within law sort.CallName sort.Name refl w h) (try q)))

  pub row_call_rest_2 : {ts us : List Lexeme} → Means (PLUS ∷ []) ts us → MeansPart P.CallRest ts us
  row_call_rest_2 (token Q q end) = (λ w h. (_, bare (within law sort.CallName sort.Name refl w h) (repeat q)))

  pub row_call_rest_3 : {ts us : List Lexeme} → Means (LEFT ∷ Goes P.OptNat ∷ RIGHT ∷ []) ts us → MeansPart P.CallRest ts us
  row_call_rest_3 (token A a (phrase n (token B b end))) = (λ w h. (_, bare (within law sort.CallName sort.Name refl w h) (first a (opt_nat n.1) b)))

  pub row_call_rest_4 : {ts us : List Lexeme} → Means (IDENTIFIER ∷ Goes P.CallIdent ∷ []) ts us → MeansPart P.CallRest ts us
  row_call_rest_4 (token X x (phrase f end)) = (λ w h. item_of h (f X x))

  pub row_call_rest_5 : {ts us : List Lexeme} → Means (NO_IDENT ∷ Goes P.CallArgs ∷ []) ts us → MeansPart P.CallRest ts us
  row_call_rest_5 (token T t (phrase r end)) = (λ w h. (_, item_call h (arg_term (no_ident_term law T t)) r.3 r.4))

  pub row_call_rest_6 : {ts us : List Lexeme} → Means (OPEN ∷ Goes P.Item ∷ Goes P.MoreSeq ∷ Goes P.MoreSemi ∷ Goes P.MoreAlt ∷ CLOSE ∷ Goes P.CallArgs ∷ []) ts us → MeansPart P.CallRest ts us
  row_call_rest_6 (token A a (phrase i (phrase p (phrase q (phrase r (token B b (phrase s end))))))) = (λ w h. (_, item_call h (arg_method a (alt_of i p q r).1 b) s.3 s.4))

  pub part_call_rest : (r : List Symbol) → IsIn r (forms P.CallRest) → {ts us : List Lexeme} → Means r ts us → MeansPart P.CallRest ts us
  part_call_rest r (inl e) {ts = ts} {us = us} m = row_call_rest_0 (subst (λ q. Means q ts us) e m)
  part_call_rest r (inr (inl e)) {ts = ts} {us = us} m = row_call_rest_1 (subst (λ q. Means q ts us) e m)
  part_call_rest r (inr (inr (inl e))) {ts = ts} {us = us} m = row_call_rest_2 (subst (λ q. Means q ts us) e m)
  part_call_rest r (inr (inr (inr (inl e)))) {ts = ts} {us = us} m = row_call_rest_3 (subst (λ q. Means q ts us) e m)
  part_call_rest r (inr (inr (inr (inr (inl e))))) {ts = ts} {us = us} m = row_call_rest_4 (subst (λ q. Means q ts us) e m)
  part_call_rest r (inr (inr (inr (inr (inr (inl e)))))) {ts = ts} {us = us} m = row_call_rest_5 (subst (λ q. Means q ts us) e m)
  part_call_rest r (inr (inr (inr (inr (inr (inr (inl e))))))) {ts = ts} {us = us} m = row_call_rest_6 (subst (λ q. Means q ts us) e m)
  part_call_rest r (inr (inr (inr (inr (inr (inr (inr (e)))))))) m = elim e [ ]

  pub row_call_args_0 : {ts us : List Lexeme} → Means ([]) ts us → MeansPart P.CallArgs ts us
  row_call_args_0 end = (_, _, _, no_args, no_sections)

  pub row_call_args_1 : {ts us : List Lexeme} → Means (IDENTIFIER ∷ Goes P.CallIdent ∷ []) ts us → MeansPart P.CallArgs ts us
  row_call_args_1 (token X x (phrase f end)) = args_of (f X x)

  pub row_call_args_2 : {ts us : List Lexeme} → Means (NO_IDENT ∷ Goes P.CallArgs ∷ []) ts us → MeansPart P.CallArgs ts us
  row_call_args_2 (token T t (phrase r end)) = (_, _, _, args (arg_term (no_ident_term law T t)) r.3, r.4)

  pub row_call_args_3 : {ts us : List Lexeme} → Means (OPEN ∷ Goes P.Item ∷ Goes P.MoreSeq ∷ Goes P.MoreSemi ∷ Goes P.MoreAlt ∷ CLOSE ∷ Goes P.CallArgs ∷ []) ts us → MeansPart P.CallArgs ts us
  row_call_args_3 (token A a (phrase i (phrase p (phrase q (phrase r (token B b (phrase s end))))))) = (_, _, _, args (arg_method a (alt_of i p q r).1 b) s.3, s.4)

  pub part_call_args : (r : List Symbol) → IsIn r (forms P.CallArgs) → {ts us : List Lexeme} → Means r ts us → MeansPart P.CallArgs ts us
  part_call_args r (inl e) {ts = ts} {us = us} m = row_call_args_0 (subst (λ q. Means q ts us) e m)
  part_call_args r (inr (inl e)) {ts = ts} {us = us} m = row_call_args_1 (subst (λ q. Means q ts us) e m)
  part_call_args r (inr (inr (inl e))) {ts = ts} {us = us} m = row_call_args_2 (subst (λ q. Means q ts us) e m)
  part_call_args r (inr (inr (inr (inl e)))) {ts = ts} {us = us} m = row_call_args_3 (subst (λ q. Means q ts us) e m)
  part_call_args r (inr (inr (inr (inr (e))))) m = elim e [ ]

  pub row_call_ident_0 : {ts us : List Lexeme} → Means ([]) ts us → MeansPart P.CallIdent ts us
  row_call_ident_0 end = (λ x h. call_args (arg_term (ident_term law x h)) no_args no_sections)

  pub row_call_ident_1 : {ts us : List Lexeme} → Means (COLON ∷ Goes P.Fact ∷ Goes P.Sections ∷ []) ts us → MeansPart P.CallIdent ts us
  row_call_ident_1 (token C c (phrase f (phrase s end))) = (λ x h. call_sections (section h c (facts f.1 s.3)) s.4)

  pub row_call_ident_2 : {ts us : List Lexeme} → Means (IDENTIFIER ∷ Goes P.CallIdent ∷ []) ts us → MeansPart P.CallIdent ts us
  row_call_ident_2 (token Y y (phrase f end)) = (λ x h. call_after (ident_term law x h) (args_of (f Y y)))

  pub row_call_ident_3 : {ts us : List Lexeme} → Means (NO_IDENT ∷ Goes P.CallArgs ∷ []) ts us → MeansPart P.CallIdent ts us
  row_call_ident_3 (token T t (phrase r end)) = (λ x h. call_args (arg_term (ident_term law x h)) (args (arg_term (no_ident_term law T t)) r.3) r.4)

  pub row_call_ident_4 : {ts us : List Lexeme} → Means (OPEN ∷ Goes P.Item ∷ Goes P.MoreSeq ∷ Goes P.MoreSemi ∷ Goes P.MoreAlt ∷ CLOSE ∷ Goes P.CallArgs ∷ []) ts us → MeansPart P.CallIdent ts us
  row_call_ident_4 (token A a (phrase i (phrase p (phrase q (phrase r (token B b (phrase s end))))))) = (λ x h. call_args (arg_term (ident_term law x h)) (args (arg_method a (alt_of i p q r).1 b) s.3) s.4)

  pub part_call_ident : (r : List Symbol) → IsIn r (forms P.CallIdent) → {ts us : List Lexeme} → Means r ts us → MeansPart P.CallIdent ts us
  part_call_ident r (inl e) {ts = ts} {us = us} m = row_call_ident_0 (subst (λ q. Means q ts us) e m)
  part_call_ident r (inr (inl e)) {ts = ts} {us = us} m = row_call_ident_1 (subst (λ q. Means q ts us) e m)
  part_call_ident r (inr (inr (inl e))) {ts = ts} {us = us} m = row_call_ident_2 (subst (λ q. Means q ts us) e m)
  part_call_ident r (inr (inr (inr (inl e)))) {ts = ts} {us = us} m = row_call_ident_3 (subst (λ q. Means q ts us) e m)
  part_call_ident r (inr (inr (inr (inr (inl e))))) {ts = ts} {us = us} m = row_call_ident_4 (subst (λ q. Means q ts us) e m)
  part_call_ident r (inr (inr (inr (inr (inr (e)))))) m = elim e [ ]

  pub row_sections_0 : {ts us : List Lexeme} → Means ([]) ts us → MeansPart P.Sections ts us
  row_sections_0 end = (_, _, _, no_more_facts, no_sections)

  pub row_sections_1 : {ts us : List Lexeme} → Means (AND ∷ Goes P.Fact ∷ Goes P.Sections ∷ []) ts us → MeansPart P.Sections ts us
  row_sections_1 (token A a (phrase f (phrase s end))) = (_, _, _, and_facts a f.1 s.3, s.4)

  pub row_sections_2 : {ts us : List Lexeme} → Means (IDENTIFIER ∷ Goes P.SectionIdent ∷ []) ts us → MeansPart P.Sections ts us
  row_sections_2 (token X x (phrase f end)) = f X x

  pub row_sections_3 : {ts us : List Lexeme} → Means (LONG ∷ Goes P.Sels ∷ Goes P.OptAtts ∷ Goes P.Sections ∷ []) ts us → MeansPart P.Sections ts us
  row_sections_3 (token N n (phrase ss (phrase xs (phrase s end)))) = (_, _, _, more_facts (fact (long_name law N n) ss.1 xs.1) s.3, s.4)

  pub part_sections : (r : List Symbol) → IsIn r (forms P.Sections) → {ts us : List Lexeme} → Means r ts us → MeansPart P.Sections ts us
  part_sections r (inl e) {ts = ts} {us = us} m = row_sections_0 (subst (λ q. Means q ts us) e m)
  part_sections r (inr (inl e)) {ts = ts} {us = us} m = row_sections_1 (subst (λ q. Means q ts us) e m)
  part_sections r (inr (inr (inl e))) {ts = ts} {us = us} m = row_sections_2 (subst (λ q. Means q ts us) e m)
  part_sections r (inr (inr (inr (inl e)))) {ts = ts} {us = us} m = row_sections_3 (subst (λ q. Means q ts us) e m)
  part_sections r (inr (inr (inr (inr (e))))) m = elim e [ ]

  pub row_section_ident_0 : {ts us : List Lexeme} → Means ([]) ts us → MeansPart P.SectionIdent ts us
  row_section_ident_0 end = (λ x h. (_, _, _, more_facts (fact (ident_name law x h) no_sels no_atts) no_more_facts, no_sections))

  pub row_section_ident_1 : {ts us : List Lexeme} → Means (COLON ∷ Goes P.Fact ∷ Goes P.Sections ∷ []) ts us → MeansPart P.SectionIdent ts us
  row_section_ident_1 (token C c (phrase f (phrase s end))) = (λ x h. (_, _, _, no_more_facts, sections (section h c (facts f.1 s.3)) s.4))

  pub row_section_ident_2 : {ts us : List Lexeme} → Means (OPEN ∷ Goes P.Sel ∷ Goes P.MoreSels ∷ CLOSE ∷ Goes P.OptAtts ∷ Goes P.Sections ∷ []) ts us → MeansPart P.SectionIdent ts us
  row_section_ident_2 (token A a (phrase s (phrase ss (token B b (phrase xs (phrase r end)))))) = (λ x h. (_, _, _, more_facts (fact (ident_name law x h) (sels a s.1 ss.1 b) xs.1) r.3, r.4))

  pub row_section_ident_3 : {ts us : List Lexeme} → Means (LEFT ∷ Goes P.Att ∷ Goes P.MoreAtts ∷ RIGHT ∷ Goes P.Sections ∷ []) ts us → MeansPart P.SectionIdent ts us
  row_section_ident_3 (token A a (phrase y (phrase ys (token B b (phrase r end))))) = (λ x h. (_, _, _, more_facts (fact (ident_name law x h) no_sels (some_atts (atts a y.1 ys.1 b))) r.3, r.4))

  pub row_section_ident_4 : {ts us : List Lexeme} → Means (AND ∷ Goes P.Fact ∷ Goes P.Sections ∷ []) ts us → MeansPart P.SectionIdent ts us
  row_section_ident_4 (token A a (phrase f (phrase s end))) = (λ x h. (_, _, _, more_facts (fact (ident_name law x h) no_sels no_atts) (and_facts a f.1 s.3), s.4))

  pub row_section_ident_5 : {ts us : List Lexeme} → Means (IDENTIFIER ∷ Goes P.SectionIdent ∷ []) ts us → MeansPart P.SectionIdent ts us
  row_section_ident_5 (token Y y (phrase f end)) = (λ x h. fact_then (ident_name law x h) (f Y y))

  pub row_section_ident_6 : {ts us : List Lexeme} → Means (LONG ∷ Goes P.Sels ∷ Goes P.OptAtts ∷ Goes P.Sections ∷ []) ts us → MeansPart P.SectionIdent ts us
  row_section_ident_6 (token N n (phrase ss (phrase xs (phrase s end)))) = (λ x h. (_, _, _, more_facts (fact (ident_name law x h) no_sels no_atts) (more_facts (fact (long_name law N n) ss.1 xs.1) s.3), s.4))

  pub part_section_ident : (r : List Symbol) → IsIn r (forms P.SectionIdent) → {ts us : List Lexeme} → Means r ts us → MeansPart P.SectionIdent ts us
  part_section_ident r (inl e) {ts = ts} {us = us} m = row_section_ident_0 (subst (λ q. Means q ts us) e m)
  part_section_ident r (inr (inl e)) {ts = ts} {us = us} m = row_section_ident_1 (subst (λ q. Means q ts us) e m)
  part_section_ident r (inr (inr (inl e))) {ts = ts} {us = us} m = row_section_ident_2 (subst (λ q. Means q ts us) e m)
  part_section_ident r (inr (inr (inr (inl e)))) {ts = ts} {us = us} m = row_section_ident_3 (subst (λ q. Means q ts us) e m)
  part_section_ident r (inr (inr (inr (inr (inl e))))) {ts = ts} {us = us} m = row_section_ident_4 (subst (λ q. Means q ts us) e m)
  part_section_ident r (inr (inr (inr (inr (inr (inl e)))))) {ts = ts} {us = us} m = row_section_ident_5 (subst (λ q. Means q ts us) e m)
  part_section_ident r (inr (inr (inr (inr (inr (inr (inl e))))))) {ts = ts} {us = us} m = row_section_ident_6 (subst (λ q. Means q ts us) e m)
  part_section_ident r (inr (inr (inr (inr (inr (inr (inr (e)))))))) m = elim e [ ]

  pub row_match_rest_0 : {ts us : List Lexeme} → Means ([]) ts us → MeansPart P.MatchRest ts us
  row_match_rest_0 end = (λ w h. (_, bare (within law (sort.Only class.Match) sort.Name refl w h) no_suffix))

  pub row_match_rest_1 : {ts us : List Lexeme} → Means (QUESTION ∷ []) ts us → MeansPart P.MatchRest ts us
  row_match_rest_1 (token Q q end) = (λ w h. (_, bare (within law (sort.Only class.Match) sort.Name refl w h) (try q)))

  pub row_match_rest_2 : {ts us : List Lexeme} → Means (PLUS ∷ []) ts us → MeansPart P.MatchRest ts us
  row_match_rest_2 (token Q q end) = (λ w h. (_, bare (within law (sort.Only class.Match) sort.Name refl w h) (repeat q)))

  pub row_match_rest_3 : {ts us : List Lexeme} → Means (LEFT ∷ Goes P.OptNat ∷ RIGHT ∷ []) ts us → MeansPart P.MatchRest ts us
  row_match_rest_3 (token A a (phrase n (token B b end))) = (λ w h. (_, bare (within law (sort.Only class.Match) sort.Name refl w h) (first a (opt_nat n.1) b)))

  pub row_match_rest_4 : {ts us : List Lexeme} → Means (PREMISES ∷ Goes P.SubjectName ∷ Goes P.Cases ∷ []) ts us → MeansPart P.MatchRest ts us
  row_match_rest_4 (token P p (phrase f (phrase c end))) = (λ w h. (_, item_match h (f P (inl p)).1 c.1))

  pub row_match_rest_5 : {ts us : List Lexeme} → Means (CONCLUSION ∷ Goes P.SubjectName ∷ Goes P.Cases ∷ []) ts us → MeansPart P.MatchRest ts us
  row_match_rest_5 (token P p (phrase f (phrase c end))) = (λ w h. (_, item_match h (f P (inr p)).1 c.1))

  pub row_match_rest_6 : {ts us : List Lexeme} → Means (OPEN ∷ TERM ∷ CLOSE ∷ Goes P.Cases ∷ []) ts us → MeansPart P.MatchRest ts us
  row_match_rest_6 (token A a (token T t (token B b (phrase c end)))) = (λ w h. (_, item_match h (subject_term a t b) c.1))

  pub row_match_rest_7 : {ts us : List Lexeme} → Means (SUBJECT_NAME ∷ Goes P.Sels ∷ Goes P.OptAtts ∷ Goes P.MoreFacts ∷ Goes P.Cases ∷ []) ts us → MeansPart P.MatchRest ts us
  row_match_rest_7 (token N n (phrase ss (phrase xs (phrase fs (phrase c end))))) = (λ w h. (_, item_match h (subject_facts (within law sort.SubjectName sort.Name refl N n) ss.1 xs.1 fs.1 (other_name n)) c.1))

  pub part_match_rest : (r : List Symbol) → IsIn r (forms P.MatchRest) → {ts us : List Lexeme} → Means r ts us → MeansPart P.MatchRest ts us
  part_match_rest r (inl e) {ts = ts} {us = us} m = row_match_rest_0 (subst (λ q. Means q ts us) e m)
  part_match_rest r (inr (inl e)) {ts = ts} {us = us} m = row_match_rest_1 (subst (λ q. Means q ts us) e m)
  part_match_rest r (inr (inr (inl e))) {ts = ts} {us = us} m = row_match_rest_2 (subst (λ q. Means q ts us) e m)
  part_match_rest r (inr (inr (inr (inl e)))) {ts = ts} {us = us} m = row_match_rest_3 (subst (λ q. Means q ts us) e m)
  part_match_rest r (inr (inr (inr (inr (inl e))))) {ts = ts} {us = us} m = row_match_rest_4 (subst (λ q. Means q ts us) e m)
  part_match_rest r (inr (inr (inr (inr (inr (inl e)))))) {ts = ts} {us = us} m = row_match_rest_5 (subst (λ q. Means q ts us) e m)
  part_match_rest r (inr (inr (inr (inr (inr (inr (inl e))))))) {ts = ts} {us = us} m = row_match_rest_6 (subst (λ q. Means q ts us) e m)
  part_match_rest r (inr (inr (inr (inr (inr (inr (inr (inl e)))))))) {ts = ts} {us = us} m = row_match_rest_7 (subst (λ q. Means q ts us) e m)
  part_match_rest r (inr (inr (inr (inr (inr (inr (inr (inr (e))))))))) m = elim e [ ]

  pub row_subject_name_0 : {ts us : List Lexeme} → Means ([]) ts us → MeansPart P.SubjectName ts us
  row_subject_name_0 end = (λ w h. word_alone h)

  pub row_subject_name_1 : {ts us : List Lexeme} → Means (OPEN ∷ Goes P.Sel ∷ Goes P.MoreSels ∷ CLOSE ∷ Goes P.OptAtts ∷ Goes P.MoreFacts ∷ []) ts us → MeansPart P.SubjectName ts us
  row_subject_name_1 (token A a (phrase s (phrase ss (token B b (phrase xs (phrase fs end)))))) = (λ w h. (_, subject_facts (word_name law w h) (sels a s.1 ss.1 b) xs.1 fs.1 with_sels))

  pub row_subject_name_2 : {ts us : List Lexeme} → Means (LEFT ∷ Goes P.Att ∷ Goes P.MoreAtts ∷ RIGHT ∷ Goes P.MoreFacts ∷ []) ts us → MeansPart P.SubjectName ts us
  row_subject_name_2 (token A a (phrase x (phrase xs (token B b (phrase fs end))))) = (λ w h. (_, subject_facts (word_name law w h) no_sels (some_atts (atts a x.1 xs.1 b)) fs.1 (with_atts x.0 xs.0)))

  pub row_subject_name_3 : {ts us : List Lexeme} → Means (AND ∷ Goes P.Fact ∷ Goes P.MoreFacts ∷ []) ts us → MeansPart P.SubjectName ts us
  row_subject_name_3 (token A a (phrase f (phrase fs end))) = (λ w h. (_, subject_facts (word_name law w h) no_sels no_atts (and_facts a f.1 fs.1) with_facts))

  pub row_subject_name_4 : {ts us : List Lexeme} → Means (NAME ∷ Goes P.Sels ∷ Goes P.OptAtts ∷ Goes P.MoreFacts ∷ []) ts us → MeansPart P.SubjectName ts us
  row_subject_name_4 (token N n (phrase ss (phrase xs (phrase fs end)))) = (λ w h. (_, subject_facts (word_name law w h) no_sels no_atts (more_facts (fact n ss.1 xs.1) fs.1) with_facts))

  pub part_subject_name : (r : List Symbol) → IsIn r (forms P.SubjectName) → {ts us : List Lexeme} → Means r ts us → MeansPart P.SubjectName ts us
  part_subject_name r (inl e) {ts = ts} {us = us} m = row_subject_name_0 (subst (λ q. Means q ts us) e m)
  part_subject_name r (inr (inl e)) {ts = ts} {us = us} m = row_subject_name_1 (subst (λ q. Means q ts us) e m)
  part_subject_name r (inr (inr (inl e))) {ts = ts} {us = us} m = row_subject_name_2 (subst (λ q. Means q ts us) e m)
  part_subject_name r (inr (inr (inr (inl e)))) {ts = ts} {us = us} m = row_subject_name_3 (subst (λ q. Means q ts us) e m)
  part_subject_name r (inr (inr (inr (inr (inl e))))) {ts = ts} {us = us} m = row_subject_name_4 (subst (λ q. Means q ts us) e m)
  part_subject_name r (inr (inr (inr (inr (inr (e)))))) m = elim e [ ]

  pub row_cases_0 : {ts us : List Lexeme} → Means (IN ∷ Goes P.Pat ∷ Goes P.MorePats ∷ Goes P.OptFor ∷ ARROW ∷ INTO ∷ Goes P.Item ∷ Goes P.MoreSeq ∷ Goes P.MoreSemi ∷ Goes P.MoreAlt ∷ OUT_OF ∷ Goes P.MoreCases ∷ []) ts us → MeansPart P.Cases ts us
  row_cases_0 (token W w (phrase p (phrase ps (phrase gs (token A a (token I i (phrase it (phrase x (phrase y (phrase z (token O o (phrase cs end)))))))))))) = (_, cases w (case_is p.1 ps.1 gs.1 a i (alt_of it x y z).1 o) cs.1)

  pub part_cases : (r : List Symbol) → IsIn r (forms P.Cases) → {ts us : List Lexeme} → Means r ts us → MeansPart P.Cases ts us
  part_cases r (inl e) {ts = ts} {us = us} m = row_cases_0 (subst (λ q. Means q ts us) e m)
  part_cases r (inr (e)) m = elim e [ ]

  pub row_more_cases_0 : {ts us : List Lexeme} → Means ([]) ts us → MeansPart P.MoreCases ts us
  row_more_cases_0 end = (_, no_more_cases)

  pub row_more_cases_1 : {ts us : List Lexeme} → Means (CASE_BAR ∷ Goes P.Pat ∷ Goes P.MorePats ∷ Goes P.OptFor ∷ ARROW ∷ INTO ∷ Goes P.Item ∷ Goes P.MoreSeq ∷ Goes P.MoreSemi ∷ Goes P.MoreAlt ∷ OUT_OF ∷ Goes P.MoreCases ∷ []) ts us → MeansPart P.MoreCases ts us
  row_more_cases_1 (token W w (phrase p (phrase ps (phrase gs (token A a (token I i (phrase it (phrase x (phrase y (phrase z (token O o (phrase cs end)))))))))))) = (_, more_cases w (case_is p.1 ps.1 gs.1 a i (alt_of it x y z).1 o) cs.1)

  pub part_more_cases : (r : List Symbol) → IsIn r (forms P.MoreCases) → {ts us : List Lexeme} → Means r ts us → MeansPart P.MoreCases ts us
  part_more_cases r (inl e) {ts = ts} {us = us} m = row_more_cases_0 (subst (λ q. Means q ts us) e m)
  part_more_cases r (inr (inl e)) {ts = ts} {us = us} m = row_more_cases_1 (subst (λ q. Means q ts us) e m)
  part_more_cases r (inr (inr (e))) m = elim e [ ]

  pub row_pat_0 : {ts us : List Lexeme} → Means (IDENTIFIER ∷ Goes P.PatIdent ∷ []) ts us → MeansPart P.Pat ts us
  row_pat_0 (token X x (phrase f end)) = f X x

  pub row_pat_1 : {ts us : List Lexeme} → Means (NO_IDENT ∷ Goes P.Cut ∷ []) ts us → MeansPart P.Pat ts us
  row_pat_1 (token T t (phrase k end)) = (_, pattern_ (no_ident_term law T t) k.1)

  pub part_pat : (r : List Symbol) → IsIn r (forms P.Pat) → {ts us : List Lexeme} → Means r ts us → MeansPart P.Pat ts us
  part_pat r (inl e) {ts = ts} {us = us} m = row_pat_0 (subst (λ q. Means q ts us) e m)
  part_pat r (inr (inl e)) {ts = ts} {us = us} m = row_pat_1 (subst (λ q. Means q ts us) e m)
  part_pat r (inr (inr (e))) m = elim e [ ]

  pub row_pat_ident_0 : {ts us : List Lexeme} → Means ([]) ts us → MeansPart P.PatIdent ts us
  row_pat_ident_0 end = (λ x h. (_, pattern_ (ident_term law x h) no_cut))

  pub row_pat_ident_1 : {ts us : List Lexeme} → Means (COLON ∷ TERM ∷ Goes P.Cut ∷ []) ts us → MeansPart P.PatIdent ts us
  row_pat_ident_1 (token C c (token T t (phrase k end))) = (λ x h. (_, named_pattern h c t k.1))

  pub row_pat_ident_2 : {ts us : List Lexeme} → Means (OPEN ∷ CUT ∷ Goes P.OptNat ∷ CLOSE ∷ []) ts us → MeansPart P.PatIdent ts us
  row_pat_ident_2 (token A a (token W w (phrase n (token B b end)))) = (λ x h. (_, pattern_ (ident_term law x h) (a_cut a w (opt_nat n.1) b)))

  pub part_pat_ident : (r : List Symbol) → IsIn r (forms P.PatIdent) → {ts us : List Lexeme} → Means r ts us → MeansPart P.PatIdent ts us
  part_pat_ident r (inl e) {ts = ts} {us = us} m = row_pat_ident_0 (subst (λ q. Means q ts us) e m)
  part_pat_ident r (inr (inl e)) {ts = ts} {us = us} m = row_pat_ident_1 (subst (λ q. Means q ts us) e m)
  part_pat_ident r (inr (inr (inl e))) {ts = ts} {us = us} m = row_pat_ident_2 (subst (λ q. Means q ts us) e m)
  part_pat_ident r (inr (inr (inr (e)))) m = elim e [ ]

  pub row_cut_0 : {ts us : List Lexeme} → Means ([]) ts us → MeansPart P.Cut ts us
  row_cut_0 end = (_, no_cut)

  pub row_cut_1 : {ts us : List Lexeme} → Means (OPEN ∷ CUT ∷ Goes P.OptNat ∷ CLOSE ∷ []) ts us → MeansPart P.Cut ts us
  row_cut_1 (token A a (token W w (phrase n (token B b end)))) = (_, a_cut a w (opt_nat n.1) b)

  pub part_cut : (r : List Symbol) → IsIn r (forms P.Cut) → {ts us : List Lexeme} → Means r ts us → MeansPart P.Cut ts us
  part_cut r (inl e) {ts = ts} {us = us} m = row_cut_0 (subst (λ q. Means q ts us) e m)
  part_cut r (inr (inl e)) {ts = ts} {us = us} m = row_cut_1 (subst (λ q. Means q ts us) e m)
  part_cut r (inr (inr (e))) m = elim e [ ]

  pub row_more_pats_0 : {ts us : List Lexeme} → Means ([]) ts us → MeansPart P.MorePats ts us
  row_more_pats_0 end = (_, no_more_patterns)

  pub row_more_pats_1 : {ts us : List Lexeme} → Means (AND ∷ Goes P.Pat ∷ Goes P.MorePats ∷ []) ts us → MeansPart P.MorePats ts us
  row_more_pats_1 (token A a (phrase p (phrase ps end))) = (_, more_patterns a p.1 ps.1)

  pub part_more_pats : (r : List Symbol) → IsIn r (forms P.MorePats) → {ts us : List Lexeme} → Means r ts us → MeansPart P.MorePats ts us
  part_more_pats r (inl e) {ts = ts} {us = us} m = row_more_pats_0 (subst (λ q. Means q ts us) e m)
  part_more_pats r (inr (inl e)) {ts = ts} {us = us} m = row_more_pats_1 (subst (λ q. Means q ts us) e m)
  part_more_pats r (inr (inr (e))) m = elim e [ ]
