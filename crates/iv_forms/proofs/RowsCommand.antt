-- Written by tools/outer_means.py from tools/meanings.txt.
-- What the rows of the table mean.
use Rattle.std.proofs.Common.{List, [], ◌∷◌, refl, subst, inl, inr}
use Rattle.iv_recogniser.specs.declared.class.Sort.TheVariants as sort
use Rattle.iv_recogniser.specs.declared.part.Part.TheVariants as P
use Rattle.iv_recogniser.specs.declared.part.Symbol.{Symbol}
use Rattle.iv_recogniser.specs.declared.part.Symbol.TheVariants.{Goes}
use Rattle.iv_recogniser.specs.Table.{AND, ASSUMES, CLOSE, COLON, COLONS, COMMA, DECLARES, EQUAL, FIXES, IDENTIFIER, IS, JUDGING, LEFT, LONG, METHODS, NAME, NO_IDENT, NO_NAME, OPEN, PRIORITY, RIGHT, SHOWS, TERM, TVAR, TYPE, USES, WHERE}
use Rattle.iv_forms.specs.declared.lexeme.Lexeme.{Lexeme}
use Rattle.iv_forms.specs.Lexeme.{no_more}
use Rattle.iv_forms.specs.FactForm.{atts, fact, facts, more_facts, no_atts, no_more_facts, no_sels, sels, some_atts}
use Rattle.iv_forms.specs.PropForm.{a_label, bare_label, group, more_props, named_label, no_label, no_more_groups, no_more_props, no_more_vars, no_patterns, no_type, of_type, patterns, prop, props}
use Rattle.iv_forms.specs.CommandForm.{and_consts, assumes, axiom_consts, axiom_is, axioms, bare_notes, const, declares_part, equation, fixes, judgment_form, long, methods_part, more_axioms, more_consts, more_equations, more_tvars, named_notes, no_and_consts, no_assumes, no_axiom_consts, no_axioms, no_fixes, no_judgment_form, no_more_axioms, no_more_consts, no_more_equations, no_more_notes, no_more_tvars, no_parts, no_tvars, note_group, obtained_props, one_tvar, short, tvars, uses_part}
use Rattle.iv_forms.proofs.Sorts.{Law, ident_name, ident_term, long_name, name_term, no_ident_term, within}
use Rattle.iv_forms.proofs.Means.{Means, MeansPart, brief, end, full, phrase, prop_tail, token, var_tail}
use Rattle.iv_forms.proofs.Helpers.{and_notes, and_tail, ident_tail, labelled, noted, obtained_tail}
use Rattle.iv_recogniser.specs.Table.{forms}
use Rattle.iv_recogniser.specs.Spell.{IsIn}

module _ (law : Law) where
  pub row_typed_0 : {ts us : List Lexeme} → Means (IDENTIFIER ∷ []) ts us → MeansPart P.Typed ts us
  row_typed_0 (token X x end) = (_, X, no_tvars, x)

  pub row_typed_1 : {ts us : List Lexeme} → Means (TVAR ∷ IDENTIFIER ∷ []) ts us → MeansPart P.Typed ts us
  row_typed_1 (token V v (token X x end)) = (_, X, one_tvar v, x)

  pub row_typed_2 : {ts us : List Lexeme} → Means (OPEN ∷ TVAR ∷ Goes P.MoreTvars ∷ CLOSE ∷ IDENTIFIER ∷ []) ts us → MeansPart P.Typed ts us
  row_typed_2 (token A a (token V v (phrase vs (token B b (token X x end))))) = (_, X, tvars a v vs.1 b, x)

  pub part_typed : (r : List Symbol) → IsIn r (forms P.Typed) → {ts us : List Lexeme} → Means r ts us → MeansPart P.Typed ts us
  part_typed r (inl e) {ts = ts} {us = us} m = row_typed_0 (subst (λ q. Means q ts us) e m)
  part_typed r (inr (inl e)) {ts = ts} {us = us} m = row_typed_1 (subst (λ q. Means q ts us) e m)
  part_typed r (inr (inr (inl e))) {ts = ts} {us = us} m = row_typed_2 (subst (λ q. Means q ts us) e m)
  part_typed r (inr (inr (inr (e)))) m = elim e [ ]

  pub row_more_tvars_0 : {ts us : List Lexeme} → Means ([]) ts us → MeansPart P.MoreTvars ts us
  row_more_tvars_0 end = (_, no_more_tvars)

  pub row_more_tvars_1 : {ts us : List Lexeme} → Means (COMMA ∷ TVAR ∷ Goes P.MoreTvars ∷ []) ts us → MeansPart P.MoreTvars ts us
  row_more_tvars_1 (token C c (token V v (phrase vs end))) = (_, more_tvars c v vs.1)

  pub part_more_tvars : (r : List Symbol) → IsIn r (forms P.MoreTvars) → {ts us : List Lexeme} → Means r ts us → MeansPart P.MoreTvars ts us
  part_more_tvars r (inl e) {ts = ts} {us = us} m = row_more_tvars_0 (subst (λ q. Means q ts us) e m)
  part_more_tvars r (inr (inl e)) {ts = ts} {us = us} m = row_more_tvars_1 (subst (λ q. Means q ts us) e m)
  part_more_tvars r (inr (inr (e))) m = elim e [ ]

  pub row_more_consts_0 : {ts us : List Lexeme} → Means ([]) ts us → MeansPart P.MoreConsts ts us
  row_more_consts_0 end = (_, no_more_consts)

  pub row_more_consts_1 : {ts us : List Lexeme} → Means (IDENTIFIER ∷ COLONS ∷ TYPE ∷ Goes P.Fix ∷ Goes P.MoreConsts ∷ []) ts us → MeansPart P.MoreConsts ts us
  row_more_consts_1 (token X x (token C c (token T t (phrase f (phrase xs end))))) = (_, more_consts (const x c t f.1) xs.1)

  pub part_more_consts : (r : List Symbol) → IsIn r (forms P.MoreConsts) → {ts us : List Lexeme} → Means r ts us → MeansPart P.MoreConsts ts us
  part_more_consts r (inl e) {ts = ts} {us = us} m = row_more_consts_0 (subst (λ q. Means q ts us) e m)
  part_more_consts r (inr (inl e)) {ts = ts} {us = us} m = row_more_consts_1 (subst (λ q. Means q ts us) e m)
  part_more_consts r (inr (inr (e))) m = elim e [ ]

  pub row_judgment_form_0 : {ts us : List Lexeme} → Means ([]) ts us → MeansPart P.JudgmentForm ts us
  row_judgment_form_0 end = no_judgment_form

  pub row_judgment_form_1 : {ts us : List Lexeme} → Means (OPEN ∷ JUDGING ∷ PRIORITY ∷ CLOSE ∷ []) ts us → MeansPart P.JudgmentForm ts us
  row_judgment_form_1 (token A a (token S s (token N n (token B b end)))) = judgment_form a s n b

  pub part_judgment_form : (r : List Symbol) → IsIn r (forms P.JudgmentForm) → {ts us : List Lexeme} → Means r ts us → MeansPart P.JudgmentForm ts us
  part_judgment_form r (inl e) {ts = ts} {us = us} m = row_judgment_form_0 (subst (λ q. Means q ts us) e m)
  part_judgment_form r (inr (inl e)) {ts = ts} {us = us} m = row_judgment_form_1 (subst (λ q. Means q ts us) e m)
  part_judgment_form r (inr (inr (e))) m = elim e [ ]

  pub row_axiomatized_0 : {ts us : List Lexeme} → Means ([]) ts us → MeansPart P.Axiomatized ts us
  row_axiomatized_0 end = (_, _, _, no_axiom_consts, no_axioms)

  pub row_axiomatized_1 : {ts us : List Lexeme} → Means (IDENTIFIER ∷ COLONS ∷ TYPE ∷ Goes P.Fix ∷ Goes P.AxiomConsts ∷ []) ts us → MeansPart P.Axiomatized ts us
  row_axiomatized_1 (token X x (token C c (token T t (phrase f (phrase r end))))) = (_, _, _, axiom_consts (const x c t f.1) r.3, r.4)

  pub row_axiomatized_2 : {ts us : List Lexeme} → Means (WHERE ∷ Goes P.Axiom ∷ Goes P.MoreAxioms ∷ []) ts us → MeansPart P.Axiomatized ts us
  row_axiomatized_2 (token W w (phrase x (phrase xs end))) = (_, _, _, no_axiom_consts, axioms w x.1 xs.1)

  pub part_axiomatized : (r : List Symbol) → IsIn r (forms P.Axiomatized) → {ts us : List Lexeme} → Means r ts us → MeansPart P.Axiomatized ts us
  part_axiomatized r (inl e) {ts = ts} {us = us} m = row_axiomatized_0 (subst (λ q. Means q ts us) e m)
  part_axiomatized r (inr (inl e)) {ts = ts} {us = us} m = row_axiomatized_1 (subst (λ q. Means q ts us) e m)
  part_axiomatized r (inr (inr (inl e))) {ts = ts} {us = us} m = row_axiomatized_2 (subst (λ q. Means q ts us) e m)
  part_axiomatized r (inr (inr (inr (e)))) m = elim e [ ]

  pub row_axiom_consts_0 : {ts us : List Lexeme} → Means ([]) ts us → MeansPart P.AxiomConsts ts us
  row_axiom_consts_0 end = (_, _, _, no_and_consts, no_axioms)

  pub row_axiom_consts_1 : {ts us : List Lexeme} → Means (AND ∷ IDENTIFIER ∷ COLONS ∷ TYPE ∷ Goes P.Fix ∷ Goes P.AxiomConsts ∷ []) ts us → MeansPart P.AxiomConsts ts us
  row_axiom_consts_1 (token A a (token X x (token C c (token T t (phrase f (phrase r end)))))) = (_, _, _, and_consts a (const x c t f.1) r.3, r.4)

  pub row_axiom_consts_2 : {ts us : List Lexeme} → Means (WHERE ∷ Goes P.Axiom ∷ Goes P.MoreAxioms ∷ []) ts us → MeansPart P.AxiomConsts ts us
  row_axiom_consts_2 (token W w (phrase x (phrase xs end))) = (_, _, _, no_and_consts, axioms w x.1 xs.1)

  pub part_axiom_consts : (r : List Symbol) → IsIn r (forms P.AxiomConsts) → {ts us : List Lexeme} → Means r ts us → MeansPart P.AxiomConsts ts us
  part_axiom_consts r (inl e) {ts = ts} {us = us} m = row_axiom_consts_0 (subst (λ q. Means q ts us) e m)
  part_axiom_consts r (inr (inl e)) {ts = ts} {us = us} m = row_axiom_consts_1 (subst (λ q. Means q ts us) e m)
  part_axiom_consts r (inr (inr (inl e))) {ts = ts} {us = us} m = row_axiom_consts_2 (subst (λ q. Means q ts us) e m)
  part_axiom_consts r (inr (inr (inr (e)))) m = elim e [ ]

  pub row_axiom_0 : {ts us : List Lexeme} → Means (NAME ∷ Goes P.OptAtts ∷ COLON ∷ TERM ∷ []) ts us → MeansPart P.Axiom ts us
  row_axiom_0 (token N n (phrase xs (token C c (token T t end)))) = (_, axiom_is n xs.1 c t)

  pub part_axiom : (r : List Symbol) → IsIn r (forms P.Axiom) → {ts us : List Lexeme} → Means r ts us → MeansPart P.Axiom ts us
  part_axiom r (inl e) {ts = ts} {us = us} m = row_axiom_0 (subst (λ q. Means q ts us) e m)
  part_axiom r (inr (e)) m = elim e [ ]

  pub row_more_axioms_0 : {ts us : List Lexeme} → Means ([]) ts us → MeansPart P.MoreAxioms ts us
  row_more_axioms_0 end = (_, no_more_axioms)

  pub row_more_axioms_1 : {ts us : List Lexeme} → Means (AND ∷ Goes P.Axiom ∷ Goes P.MoreAxioms ∷ []) ts us → MeansPart P.MoreAxioms ts us
  row_more_axioms_1 (token A a (phrase x (phrase xs end))) = (_, more_axioms a x.1 xs.1)

  pub part_more_axioms : (r : List Symbol) → IsIn r (forms P.MoreAxioms) → {ts us : List Lexeme} → Means r ts us → MeansPart P.MoreAxioms ts us
  part_more_axioms r (inl e) {ts = ts} {us = us} m = row_more_axioms_0 (subst (λ q. Means q ts us) e m)
  part_more_axioms r (inr (inl e)) {ts = ts} {us = us} m = row_more_axioms_1 (subst (λ q. Means q ts us) e m)
  part_more_axioms r (inr (inr (e))) m = elim e [ ]

  pub row_parts_0 : {ts us : List Lexeme} → Means (METHODS ∷ IDENTIFIER ∷ Goes P.Idents ∷ Goes P.UsesDeclares ∷ []) ts us → MeansPart P.Parts ts us
  row_parts_0 (token W w (token X x (phrase xs (phrase r end)))) = (_, r.1, r.2, r.3, methods_part w x xs.1 r.4 r.7, r.5, r.6, tt, r.8, r.9)

  pub row_parts_1 : {ts us : List Lexeme} → Means (USES ∷ IDENTIFIER ∷ Goes P.Idents ∷ Goes P.MethodsDeclares ∷ []) ts us → MeansPart P.Parts ts us
  row_parts_1 (token W w (token X x (phrase xs (phrase r end)))) = (_, r.1, r.2, r.3, uses_part w x xs.1 r.4 r.8, r.5, r.6, r.7, tt, r.9)

  pub row_parts_2 : {ts us : List Lexeme} → Means (DECLARES ∷ IDENTIFIER ∷ Goes P.Idents ∷ Goes P.MethodsUses ∷ []) ts us → MeansPart P.Parts ts us
  row_parts_2 (token W w (token X x (phrase xs (phrase r end)))) = (_, r.1, r.2, r.3, declares_part w x xs.1 r.4 r.9, r.5, r.6, r.7, r.8, tt)

  pub row_parts_3 : {ts us : List Lexeme} → Means (EQUAL ∷ Goes P.Method ∷ []) ts us → MeansPart P.Parts ts us
  row_parts_3 (token E e (phrase m end)) = (_, E, m.0, _, no_parts, e, m.1, tt, tt, tt)

  pub part_parts : (r : List Symbol) → IsIn r (forms P.Parts) → {ts us : List Lexeme} → Means r ts us → MeansPart P.Parts ts us
  part_parts r (inl e) {ts = ts} {us = us} m = row_parts_0 (subst (λ q. Means q ts us) e m)
  part_parts r (inr (inl e)) {ts = ts} {us = us} m = row_parts_1 (subst (λ q. Means q ts us) e m)
  part_parts r (inr (inr (inl e))) {ts = ts} {us = us} m = row_parts_2 (subst (λ q. Means q ts us) e m)
  part_parts r (inr (inr (inr (inl e)))) {ts = ts} {us = us} m = row_parts_3 (subst (λ q. Means q ts us) e m)
  part_parts r (inr (inr (inr (inr (e))))) m = elim e [ ]

  pub row_uses_declares_0 : {ts us : List Lexeme} → Means (USES ∷ IDENTIFIER ∷ Goes P.Idents ∷ Goes P.DeclaresAlone ∷ []) ts us → MeansPart P.UsesDeclares ts us
  row_uses_declares_0 (token W w (token X x (phrase xs (phrase r end)))) = (_, r.1, r.2, r.3, uses_part w x xs.1 r.4 r.8, r.5, r.6, r.7, tt, r.9)

  pub row_uses_declares_1 : {ts us : List Lexeme} → Means (DECLARES ∷ IDENTIFIER ∷ Goes P.Idents ∷ Goes P.UsesAlone ∷ []) ts us → MeansPart P.UsesDeclares ts us
  row_uses_declares_1 (token W w (token X x (phrase xs (phrase r end)))) = (_, r.1, r.2, r.3, declares_part w x xs.1 r.4 r.9, r.5, r.6, r.7, r.8, tt)

  pub row_uses_declares_2 : {ts us : List Lexeme} → Means (EQUAL ∷ Goes P.Method ∷ []) ts us → MeansPart P.UsesDeclares ts us
  row_uses_declares_2 (token E e (phrase m end)) = (_, E, m.0, _, no_parts, e, m.1, refl, tt, tt)

  pub part_uses_declares : (r : List Symbol) → IsIn r (forms P.UsesDeclares) → {ts us : List Lexeme} → Means r ts us → MeansPart P.UsesDeclares ts us
  part_uses_declares r (inl e) {ts = ts} {us = us} m = row_uses_declares_0 (subst (λ q. Means q ts us) e m)
  part_uses_declares r (inr (inl e)) {ts = ts} {us = us} m = row_uses_declares_1 (subst (λ q. Means q ts us) e m)
  part_uses_declares r (inr (inr (inl e))) {ts = ts} {us = us} m = row_uses_declares_2 (subst (λ q. Means q ts us) e m)
  part_uses_declares r (inr (inr (inr (e)))) m = elim e [ ]

  pub row_methods_declares_0 : {ts us : List Lexeme} → Means (METHODS ∷ IDENTIFIER ∷ Goes P.Idents ∷ Goes P.DeclaresAlone ∷ []) ts us → MeansPart P.MethodsDeclares ts us
  row_methods_declares_0 (token W w (token X x (phrase xs (phrase r end)))) = (_, r.1, r.2, r.3, methods_part w x xs.1 r.4 r.7, r.5, r.6, tt, r.8, r.9)

  pub row_methods_declares_1 : {ts us : List Lexeme} → Means (DECLARES ∷ IDENTIFIER ∷ Goes P.Idents ∷ Goes P.MethodsAlone ∷ []) ts us → MeansPart P.MethodsDeclares ts us
  row_methods_declares_1 (token W w (token X x (phrase xs (phrase r end)))) = (_, r.1, r.2, r.3, declares_part w x xs.1 r.4 r.9, r.5, r.6, r.7, r.8, tt)

  pub row_methods_declares_2 : {ts us : List Lexeme} → Means (EQUAL ∷ Goes P.Method ∷ []) ts us → MeansPart P.MethodsDeclares ts us
  row_methods_declares_2 (token E e (phrase m end)) = (_, E, m.0, _, no_parts, e, m.1, tt, refl, tt)

  pub part_methods_declares : (r : List Symbol) → IsIn r (forms P.MethodsDeclares) → {ts us : List Lexeme} → Means r ts us → MeansPart P.MethodsDeclares ts us
  part_methods_declares r (inl e) {ts = ts} {us = us} m = row_methods_declares_0 (subst (λ q. Means q ts us) e m)
  part_methods_declares r (inr (inl e)) {ts = ts} {us = us} m = row_methods_declares_1 (subst (λ q. Means q ts us) e m)
  part_methods_declares r (inr (inr (inl e))) {ts = ts} {us = us} m = row_methods_declares_2 (subst (λ q. Means q ts us) e m)
  part_methods_declares r (inr (inr (inr (e)))) m = elim e [ ]

  pub row_methods_uses_0 : {ts us : List Lexeme} → Means (METHODS ∷ IDENTIFIER ∷ Goes P.Idents ∷ Goes P.UsesAlone ∷ []) ts us → MeansPart P.MethodsUses ts us
  row_methods_uses_0 (token W w (token X x (phrase xs (phrase r end)))) = (_, r.1, r.2, r.3, methods_part w x xs.1 r.4 r.7, r.5, r.6, tt, r.8, r.9)

  pub row_methods_uses_1 : {ts us : List Lexeme} → Means (USES ∷ IDENTIFIER ∷ Goes P.Idents ∷ Goes P.MethodsAlone ∷ []) ts us → MeansPart P.MethodsUses ts us
  row_methods_uses_1 (token W w (token X x (phrase xs (phrase r end)))) = (_, r.1, r.2, r.3, uses_part w x xs.1 r.4 r.8, r.5, r.6, r.7, tt, r.9)

  pub row_methods_uses_2 : {ts us : List Lexeme} → Means (EQUAL ∷ Goes P.Method ∷ []) ts us → MeansPart P.MethodsUses ts us
  row_methods_uses_2 (token E e (phrase m end)) = (_, E, m.0, _, no_parts, e, m.1, tt, tt, refl)

  pub part_methods_uses : (r : List Symbol) → IsIn r (forms P.MethodsUses) → {ts us : List Lexeme} → Means r ts us → MeansPart P.MethodsUses ts us
  part_methods_uses r (inl e) {ts = ts} {us = us} m = row_methods_uses_0 (subst (λ q. Means q ts us) e m)
  part_methods_uses r (inr (inl e)) {ts = ts} {us = us} m = row_methods_uses_1 (subst (λ q. Means q ts us) e m)
  part_methods_uses r (inr (inr (inl e))) {ts = ts} {us = us} m = row_methods_uses_2 (subst (λ q. Means q ts us) e m)
  part_methods_uses r (inr (inr (inr (e)))) m = elim e [ ]

  pub row_methods_alone_0 : {ts us : List Lexeme} → Means (METHODS ∷ IDENTIFIER ∷ Goes P.Idents ∷ Goes P.Body ∷ []) ts us → MeansPart P.MethodsAlone ts us
  row_methods_alone_0 (token W w (token X x (phrase xs (phrase r end)))) = (_, r.1, r.2, r.3, methods_part w x xs.1 r.4 r.7, r.5, r.6, tt, r.8, r.9)

  pub row_methods_alone_1 : {ts us : List Lexeme} → Means (EQUAL ∷ Goes P.Method ∷ []) ts us → MeansPart P.MethodsAlone ts us
  row_methods_alone_1 (token E e (phrase m end)) = (_, E, m.0, _, no_parts, e, m.1, tt, refl, refl)

  pub part_methods_alone : (r : List Symbol) → IsIn r (forms P.MethodsAlone) → {ts us : List Lexeme} → Means r ts us → MeansPart P.MethodsAlone ts us
  part_methods_alone r (inl e) {ts = ts} {us = us} m = row_methods_alone_0 (subst (λ q. Means q ts us) e m)
  part_methods_alone r (inr (inl e)) {ts = ts} {us = us} m = row_methods_alone_1 (subst (λ q. Means q ts us) e m)
  part_methods_alone r (inr (inr (e))) m = elim e [ ]

  pub row_uses_alone_0 : {ts us : List Lexeme} → Means (USES ∷ IDENTIFIER ∷ Goes P.Idents ∷ Goes P.Body ∷ []) ts us → MeansPart P.UsesAlone ts us
  row_uses_alone_0 (token W w (token X x (phrase xs (phrase r end)))) = (_, r.1, r.2, r.3, uses_part w x xs.1 r.4 r.8, r.5, r.6, r.7, tt, r.9)

  pub row_uses_alone_1 : {ts us : List Lexeme} → Means (EQUAL ∷ Goes P.Method ∷ []) ts us → MeansPart P.UsesAlone ts us
  row_uses_alone_1 (token E e (phrase m end)) = (_, E, m.0, _, no_parts, e, m.1, refl, tt, refl)

  pub part_uses_alone : (r : List Symbol) → IsIn r (forms P.UsesAlone) → {ts us : List Lexeme} → Means r ts us → MeansPart P.UsesAlone ts us
  part_uses_alone r (inl e) {ts = ts} {us = us} m = row_uses_alone_0 (subst (λ q. Means q ts us) e m)
  part_uses_alone r (inr (inl e)) {ts = ts} {us = us} m = row_uses_alone_1 (subst (λ q. Means q ts us) e m)
  part_uses_alone r (inr (inr (e))) m = elim e [ ]

  pub row_declares_alone_0 : {ts us : List Lexeme} → Means (DECLARES ∷ IDENTIFIER ∷ Goes P.Idents ∷ Goes P.Body ∷ []) ts us → MeansPart P.DeclaresAlone ts us
  row_declares_alone_0 (token W w (token X x (phrase xs (phrase r end)))) = (_, r.1, r.2, r.3, declares_part w x xs.1 r.4 r.9, r.5, r.6, r.7, r.8, tt)

  pub row_declares_alone_1 : {ts us : List Lexeme} → Means (EQUAL ∷ Goes P.Method ∷ []) ts us → MeansPart P.DeclaresAlone ts us
  row_declares_alone_1 (token E e (phrase m end)) = (_, E, m.0, _, no_parts, e, m.1, refl, refl, tt)

  pub part_declares_alone : (r : List Symbol) → IsIn r (forms P.DeclaresAlone) → {ts us : List Lexeme} → Means r ts us → MeansPart P.DeclaresAlone ts us
  part_declares_alone r (inl e) {ts = ts} {us = us} m = row_declares_alone_0 (subst (λ q. Means q ts us) e m)
  part_declares_alone r (inr (inl e)) {ts = ts} {us = us} m = row_declares_alone_1 (subst (λ q. Means q ts us) e m)
  part_declares_alone r (inr (inr (e))) m = elim e [ ]

  pub row_body_0 : {ts us : List Lexeme} → Means (EQUAL ∷ Goes P.Method ∷ []) ts us → MeansPart P.Body ts us
  row_body_0 (token E e (phrase m end)) = (_, E, m.0, _, no_parts, e, m.1, refl, refl, refl)

  pub part_body : (r : List Symbol) → IsIn r (forms P.Body) → {ts us : List Lexeme} → Means r ts us → MeansPart P.Body ts us
  part_body r (inl e) {ts = ts} {us = us} m = row_body_0 (subst (λ q. Means q ts us) e m)
  part_body r (inr (e)) m = elim e [ ]

  pub row_statement_0 : {ts us : List Lexeme} → Means (NAME ∷ Goes P.StatementName ∷ []) ts us → MeansPart P.Statement ts us
  row_statement_0 (token N n (phrase f end)) = f N n

  pub row_statement_1 : {ts us : List Lexeme} → Means (LEFT ∷ Goes P.Att ∷ Goes P.MoreAtts ∷ RIGHT ∷ COLON ∷ Goes P.Stated ∷ []) ts us → MeansPart P.Statement ts us
  row_statement_1 (token A a (phrase x (phrase xs (token B b (token C c (phrase s end)))))) = labelled (a_label (bare_label (atts a x.1 xs.1 b) c)) s

  pub row_statement_2 : {ts us : List Lexeme} → Means (NO_NAME ∷ Goes P.Pattern ∷ []) ts us → MeansPart P.Statement ts us
  row_statement_2 (token T t (phrase ps end)) = (_, short no_label (prop (within law sort.NoName sort.Term refl T t) ps.1))

  pub row_statement_3 : {ts us : List Lexeme} → Means (FIXES ∷ Goes P.Vars ∷ Goes P.OptAssumes ∷ SHOWS ∷ Goes P.Prop ∷ []) ts us → MeansPart P.Statement ts us
  row_statement_3 (token W w (phrase vs (phrase gs (token Sh sh (phrase p end))))) = (_, long no_label (fixes w vs.1) gs.1 sh p.1)

  pub row_statement_4 : {ts us : List Lexeme} → Means (ASSUMES ∷ Goes P.Props ∷ SHOWS ∷ Goes P.Prop ∷ []) ts us → MeansPart P.Statement ts us
  row_statement_4 (token W w (phrase gs (token Sh sh (phrase p end)))) = (_, long no_label no_fixes (assumes w gs.1) sh p.1)

  pub row_statement_5 : {ts us : List Lexeme} → Means (SHOWS ∷ Goes P.Prop ∷ []) ts us → MeansPart P.Statement ts us
  row_statement_5 (token Sh sh (phrase p end)) = (_, long no_label no_fixes no_assumes sh p.1)

  pub part_statement : (r : List Symbol) → IsIn r (forms P.Statement) → {ts us : List Lexeme} → Means r ts us → MeansPart P.Statement ts us
  part_statement r (inl e) {ts = ts} {us = us} m = row_statement_0 (subst (λ q. Means q ts us) e m)
  part_statement r (inr (inl e)) {ts = ts} {us = us} m = row_statement_1 (subst (λ q. Means q ts us) e m)
  part_statement r (inr (inr (inl e))) {ts = ts} {us = us} m = row_statement_2 (subst (λ q. Means q ts us) e m)
  part_statement r (inr (inr (inr (inl e)))) {ts = ts} {us = us} m = row_statement_3 (subst (λ q. Means q ts us) e m)
  part_statement r (inr (inr (inr (inr (inl e))))) {ts = ts} {us = us} m = row_statement_4 (subst (λ q. Means q ts us) e m)
  part_statement r (inr (inr (inr (inr (inr (inl e)))))) {ts = ts} {us = us} m = row_statement_5 (subst (λ q. Means q ts us) e m)
  part_statement r (inr (inr (inr (inr (inr (inr (e))))))) m = elim e [ ]

  pub row_statement_name_0 : {ts us : List Lexeme} → Means ([]) ts us → MeansPart P.StatementName ts us
  row_statement_name_0 end = (λ n h. (_, short no_label (prop (name_term law n h) no_patterns)))

  pub row_statement_name_1 : {ts us : List Lexeme} → Means (COLON ∷ Goes P.Stated ∷ []) ts us → MeansPart P.StatementName ts us
  row_statement_name_1 (token C c (phrase s end)) = (λ n h. labelled (a_label (named_label h no_atts c)) s)

  pub row_statement_name_2 : {ts us : List Lexeme} → Means (LEFT ∷ Goes P.Att ∷ Goes P.MoreAtts ∷ RIGHT ∷ COLON ∷ Goes P.Stated ∷ []) ts us → MeansPart P.StatementName ts us
  row_statement_name_2 (token A a (phrase x (phrase xs (token B b (token C c (phrase s end)))))) = (λ n h. labelled (a_label (named_label h (some_atts (atts a x.1 xs.1 b)) c)) s)

  pub row_statement_name_3 : {ts us : List Lexeme} → Means (OPEN ∷ IS ∷ TERM ∷ Goes P.Terms ∷ CLOSE ∷ []) ts us → MeansPart P.StatementName ts us
  row_statement_name_3 (token A a (token W w (token T t (phrase xs (token B b end))))) = (λ n h. (_, short no_label (prop (name_term law n h) (patterns a w t xs.1 b))))

  pub part_statement_name : (r : List Symbol) → IsIn r (forms P.StatementName) → {ts us : List Lexeme} → Means r ts us → MeansPart P.StatementName ts us
  part_statement_name r (inl e) {ts = ts} {us = us} m = row_statement_name_0 (subst (λ q. Means q ts us) e m)
  part_statement_name r (inr (inl e)) {ts = ts} {us = us} m = row_statement_name_1 (subst (λ q. Means q ts us) e m)
  part_statement_name r (inr (inr (inl e))) {ts = ts} {us = us} m = row_statement_name_2 (subst (λ q. Means q ts us) e m)
  part_statement_name r (inr (inr (inr (inl e)))) {ts = ts} {us = us} m = row_statement_name_3 (subst (λ q. Means q ts us) e m)
  part_statement_name r (inr (inr (inr (inr (e))))) m = elim e [ ]

  pub row_stated_0 : {ts us : List Lexeme} → Means (TERM ∷ Goes P.Pattern ∷ []) ts us → MeansPart P.Stated ts us
  row_stated_0 (token T t (phrase ps end)) = brief (prop t ps.1)

  pub row_stated_1 : {ts us : List Lexeme} → Means (FIXES ∷ Goes P.Vars ∷ Goes P.OptAssumes ∷ SHOWS ∷ Goes P.Prop ∷ []) ts us → MeansPart P.Stated ts us
  row_stated_1 (token W w (phrase vs (phrase gs (token Sh sh (phrase p end))))) = full (fixes w vs.1) gs.1 sh p.1

  pub row_stated_2 : {ts us : List Lexeme} → Means (ASSUMES ∷ Goes P.Props ∷ SHOWS ∷ Goes P.Prop ∷ []) ts us → MeansPart P.Stated ts us
  row_stated_2 (token W w (phrase gs (token Sh sh (phrase p end)))) = full no_fixes (assumes w gs.1) sh p.1

  pub row_stated_3 : {ts us : List Lexeme} → Means (SHOWS ∷ Goes P.Prop ∷ []) ts us → MeansPart P.Stated ts us
  row_stated_3 (token Sh sh (phrase p end)) = full no_fixes no_assumes sh p.1

  pub part_stated : (r : List Symbol) → IsIn r (forms P.Stated) → {ts us : List Lexeme} → Means r ts us → MeansPart P.Stated ts us
  part_stated r (inl e) {ts = ts} {us = us} m = row_stated_0 (subst (λ q. Means q ts us) e m)
  part_stated r (inr (inl e)) {ts = ts} {us = us} m = row_stated_1 (subst (λ q. Means q ts us) e m)
  part_stated r (inr (inr (inl e))) {ts = ts} {us = us} m = row_stated_2 (subst (λ q. Means q ts us) e m)
  part_stated r (inr (inr (inr (inl e)))) {ts = ts} {us = us} m = row_stated_3 (subst (λ q. Means q ts us) e m)
  part_stated r (inr (inr (inr (inr (e))))) m = elim e [ ]

  pub row_opt_assumes_0 : {ts us : List Lexeme} → Means ([]) ts us → MeansPart P.OptAssumes ts us
  row_opt_assumes_0 end = (_, no_assumes)

  pub row_opt_assumes_1 : {ts us : List Lexeme} → Means (ASSUMES ∷ Goes P.Props ∷ []) ts us → MeansPart P.OptAssumes ts us
  row_opt_assumes_1 (token W w (phrase gs end)) = (_, assumes w gs.1)

  pub part_opt_assumes : (r : List Symbol) → IsIn r (forms P.OptAssumes) → {ts us : List Lexeme} → Means r ts us → MeansPart P.OptAssumes ts us
  part_opt_assumes r (inl e) {ts = ts} {us = us} m = row_opt_assumes_0 (subst (λ q. Means q ts us) e m)
  part_opt_assumes r (inr (inl e)) {ts = ts} {us = us} m = row_opt_assumes_1 (subst (λ q. Means q ts us) e m)
  part_opt_assumes r (inr (inr (e))) m = elim e [ ]

  pub row_more_equations_0 : {ts us : List Lexeme} → Means ([]) ts us → MeansPart P.MoreEquations ts us
  row_more_equations_0 end = (_, no_more_equations)

  pub row_more_equations_1 : {ts us : List Lexeme} → Means (AND ∷ TERM ∷ EQUAL ∷ TERM ∷ Goes P.MoreEquations ∷ []) ts us → MeansPart P.MoreEquations ts us
  row_more_equations_1 (token A a (token X x (token E e (token T t (phrase xs end))))) = (_, more_equations a (equation x e t) xs.1)

  pub part_more_equations : (r : List Symbol) → IsIn r (forms P.MoreEquations) → {ts us : List Lexeme} → Means r ts us → MeansPart P.MoreEquations ts us
  part_more_equations r (inl e) {ts = ts} {us = us} m = row_more_equations_0 (subst (λ q. Means q ts us) e m)
  part_more_equations r (inr (inl e)) {ts = ts} {us = us} m = row_more_equations_1 (subst (λ q. Means q ts us) e m)
  part_more_equations r (inr (inr (e))) m = elim e [ ]

  pub row_note_name_0 : {ts us : List Lexeme} → Means ([]) ts us → MeansPart P.NoteName ts us
  row_note_name_0 end = (λ n h. (_, bare_notes (facts (fact h no_sels no_atts) no_more_facts) no_more_notes))

  pub row_note_name_1 : {ts us : List Lexeme} → Means (EQUAL ∷ NAME ∷ Goes P.Sels ∷ Goes P.OptAtts ∷ Goes P.NoteMore ∷ []) ts us → MeansPart P.NoteName ts us
  row_note_name_1 (token E e (token M m (phrase ss (phrase xs (phrase r end))))) = (λ n h. (_, named_notes (note_group h no_atts e (facts (fact m ss.1 xs.1) r.3)) r.4))

  pub row_note_name_2 : {ts us : List Lexeme} → Means (LEFT ∷ Goes P.Att ∷ Goes P.MoreAtts ∷ RIGHT ∷ Goes P.NoteEqual ∷ []) ts us → MeansPart P.NoteName ts us
  row_note_name_2 (token A a (phrase x (phrase xs (token B b (phrase f end))))) = (λ n h. f n _ _ h (atts a x.1 xs.1 b))

  pub row_note_name_3 : {ts us : List Lexeme} → Means (OPEN ∷ Goes P.Sel ∷ Goes P.MoreSels ∷ CLOSE ∷ Goes P.OptAtts ∷ Goes P.NoteMore ∷ []) ts us → MeansPart P.NoteName ts us
  row_note_name_3 (token A a (phrase s (phrase ss (token B b (phrase xs (phrase r end)))))) = (λ n h. (_, bare_notes (facts (fact h (sels a s.1 ss.1 b) xs.1) r.3) r.4))

  pub row_note_name_4 : {ts us : List Lexeme} → Means (AND ∷ NAME ∷ Goes P.NoteName ∷ []) ts us → MeansPart P.NoteName ts us
  row_note_name_4 (token A a (token M m (phrase f end))) = (λ n h. noted (fact h no_sels no_atts) (and_notes a (f M m).1))

  pub row_note_name_5 : {ts us : List Lexeme} → Means (NAME ∷ Goes P.Sels ∷ Goes P.OptAtts ∷ Goes P.NoteMore ∷ []) ts us → MeansPart P.NoteName ts us
  row_note_name_5 (token M m (phrase ss (phrase xs (phrase r end)))) = (λ n h. (_, bare_notes (facts (fact h no_sels no_atts) (more_facts (fact m ss.1 xs.1) r.3)) r.4))

  pub part_note_name : (r : List Symbol) → IsIn r (forms P.NoteName) → {ts us : List Lexeme} → Means r ts us → MeansPart P.NoteName ts us
  part_note_name r (inl e) {ts = ts} {us = us} m = row_note_name_0 (subst (λ q. Means q ts us) e m)
  part_note_name r (inr (inl e)) {ts = ts} {us = us} m = row_note_name_1 (subst (λ q. Means q ts us) e m)
  part_note_name r (inr (inr (inl e))) {ts = ts} {us = us} m = row_note_name_2 (subst (λ q. Means q ts us) e m)
  part_note_name r (inr (inr (inr (inl e)))) {ts = ts} {us = us} m = row_note_name_3 (subst (λ q. Means q ts us) e m)
  part_note_name r (inr (inr (inr (inr (inl e))))) {ts = ts} {us = us} m = row_note_name_4 (subst (λ q. Means q ts us) e m)
  part_note_name r (inr (inr (inr (inr (inr (inl e)))))) {ts = ts} {us = us} m = row_note_name_5 (subst (λ q. Means q ts us) e m)
  part_note_name r (inr (inr (inr (inr (inr (inr (e))))))) m = elim e [ ]

  pub row_note_equal_0 : {ts us : List Lexeme} → Means ([]) ts us → MeansPart P.NoteEqual ts us
  row_note_equal_0 end = (λ n ys start h k. (_, bare_notes (facts (fact h no_sels (some_atts k)) no_more_facts) no_more_notes))

  pub row_note_equal_1 : {ts us : List Lexeme} → Means (EQUAL ∷ NAME ∷ Goes P.Sels ∷ Goes P.OptAtts ∷ Goes P.NoteMore ∷ []) ts us → MeansPart P.NoteEqual ts us
  row_note_equal_1 (token E e (token M m (phrase ss (phrase xs (phrase r end))))) = (λ n ys start h k. (_, named_notes (note_group h (some_atts k) e (facts (fact m ss.1 xs.1) r.3)) r.4))

  pub row_note_equal_2 : {ts us : List Lexeme} → Means (AND ∷ NAME ∷ Goes P.NoteName ∷ []) ts us → MeansPart P.NoteEqual ts us
  row_note_equal_2 (token A a (token M m (phrase f end))) = (λ n ys start h k. noted (fact h no_sels (some_atts k)) (and_notes a (f M m).1))

  pub row_note_equal_3 : {ts us : List Lexeme} → Means (NAME ∷ Goes P.Sels ∷ Goes P.OptAtts ∷ Goes P.NoteMore ∷ []) ts us → MeansPart P.NoteEqual ts us
  row_note_equal_3 (token M m (phrase ss (phrase xs (phrase r end)))) = (λ n ys start h k. (_, bare_notes (facts (fact h no_sels (some_atts k)) (more_facts (fact m ss.1 xs.1) r.3)) r.4))

  pub part_note_equal : (r : List Symbol) → IsIn r (forms P.NoteEqual) → {ts us : List Lexeme} → Means r ts us → MeansPart P.NoteEqual ts us
  part_note_equal r (inl e) {ts = ts} {us = us} m = row_note_equal_0 (subst (λ q. Means q ts us) e m)
  part_note_equal r (inr (inl e)) {ts = ts} {us = us} m = row_note_equal_1 (subst (λ q. Means q ts us) e m)
  part_note_equal r (inr (inr (inl e))) {ts = ts} {us = us} m = row_note_equal_2 (subst (λ q. Means q ts us) e m)
  part_note_equal r (inr (inr (inr (inl e)))) {ts = ts} {us = us} m = row_note_equal_3 (subst (λ q. Means q ts us) e m)
  part_note_equal r (inr (inr (inr (inr (e))))) m = elim e [ ]

  pub row_note_more_0 : {ts us : List Lexeme} → Means ([]) ts us → MeansPart P.NoteMore ts us
  row_note_more_0 end = (_, _, _, no_more_facts, no_more_notes)

  pub row_note_more_1 : {ts us : List Lexeme} → Means (AND ∷ NAME ∷ Goes P.NoteName ∷ []) ts us → MeansPart P.NoteMore ts us
  row_note_more_1 (token A a (token M m (phrase f end))) = and_notes a (f M m).1

  pub row_note_more_2 : {ts us : List Lexeme} → Means (NAME ∷ Goes P.Sels ∷ Goes P.OptAtts ∷ Goes P.NoteMore ∷ []) ts us → MeansPart P.NoteMore ts us
  row_note_more_2 (token M m (phrase ss (phrase xs (phrase r end)))) = (_, _, _, more_facts (fact m ss.1 xs.1) r.3, r.4)

  pub part_note_more : (r : List Symbol) → IsIn r (forms P.NoteMore) → {ts us : List Lexeme} → Means r ts us → MeansPart P.NoteMore ts us
  part_note_more r (inl e) {ts = ts} {us = us} m = row_note_more_0 (subst (λ q. Means q ts us) e m)
  part_note_more r (inr (inl e)) {ts = ts} {us = us} m = row_note_more_1 (subst (λ q. Means q ts us) e m)
  part_note_more r (inr (inr (inl e))) {ts = ts} {us = us} m = row_note_more_2 (subst (λ q. Means q ts us) e m)
  part_note_more r (inr (inr (inr (e)))) m = elim e [ ]

  pub row_obtained_0 : {ts us : List Lexeme} → Means (IDENTIFIER ∷ Goes P.ObtainedOne ∷ []) ts us → MeansPart P.Obtained ts us
  row_obtained_0 (token X x (phrase f end)) = f X x

  pub row_obtained_1 : {ts us : List Lexeme} → Means (LONG ∷ Goes P.PropsName ∷ []) ts us → MeansPart P.Obtained ts us
  row_obtained_1 (token N n (phrase f end)) = (_, obtained_props (f N (long_name law N n)).1)

  pub row_obtained_2 : {ts us : List Lexeme} → Means (LEFT ∷ Goes P.Att ∷ Goes P.MoreAtts ∷ RIGHT ∷ COLON ∷ TERM ∷ Goes P.Pattern ∷ Goes P.MoreProps ∷ []) ts us → MeansPart P.Obtained ts us
  row_obtained_2 (token A a (phrase x (phrase xs (token B b (token C c (token T t (phrase ps (phrase r end)))))))) = (_, obtained_props (props (group (a_label (bare_label (atts a x.1 xs.1 b) c)) (prop t ps.1) r.3) r.4))

  pub row_obtained_3 : {ts us : List Lexeme} → Means (NO_NAME ∷ Goes P.Pattern ∷ Goes P.MoreProps ∷ []) ts us → MeansPart P.Obtained ts us
  row_obtained_3 (token T t (phrase ps (phrase r end))) = (_, obtained_props (props (group no_label (prop (within law sort.NoName sort.Term refl T t) ps.1) r.3) r.4))

  pub part_obtained : (r : List Symbol) → IsIn r (forms P.Obtained) → {ts us : List Lexeme} → Means r ts us → MeansPart P.Obtained ts us
  part_obtained r (inl e) {ts = ts} {us = us} m = row_obtained_0 (subst (λ q. Means q ts us) e m)
  part_obtained r (inr (inl e)) {ts = ts} {us = us} m = row_obtained_1 (subst (λ q. Means q ts us) e m)
  part_obtained r (inr (inr (inl e))) {ts = ts} {us = us} m = row_obtained_2 (subst (λ q. Means q ts us) e m)
  part_obtained r (inr (inr (inr (inl e)))) {ts = ts} {us = us} m = row_obtained_3 (subst (λ q. Means q ts us) e m)
  part_obtained r (inr (inr (inr (inr (e))))) m = elim e [ ]

  pub row_obtained_one_0 : {ts us : List Lexeme} → Means ([]) ts us → MeansPart P.ObtainedOne ts us
  row_obtained_one_0 end = (λ x h. (_, obtained_props (props (group no_label (prop (ident_term law x h) no_patterns) no_more_props) no_more_groups)))

  pub row_obtained_one_1 : {ts us : List Lexeme} → Means (IDENTIFIER ∷ Goes P.ObtainedMore ∷ []) ts us → MeansPart P.ObtainedOne ts us
  row_obtained_one_1 (token Y y (phrase f end)) = (λ x h. obtained_tail law x h (f Y y))

  pub row_obtained_one_2 : {ts us : List Lexeme} → Means (COLONS ∷ TYPE ∷ Goes P.MoreVars ∷ WHERE ∷ Goes P.Props ∷ []) ts us → MeansPart P.ObtainedOne ts us
  row_obtained_one_2 (token C c (token T t (phrase gs (token W w (phrase ps end))))) = (λ x h. obtained_tail law x h (var_tail no_more (of_type c t) gs.1 w ps.1))

  pub row_obtained_one_3 : {ts us : List Lexeme} → Means (WHERE ∷ Goes P.Props ∷ []) ts us → MeansPart P.ObtainedOne ts us
  row_obtained_one_3 (token W w (phrase ps end)) = (λ x h. obtained_tail law x h (var_tail no_more no_type no_more_vars w ps.1))

  pub row_obtained_one_4 : {ts us : List Lexeme} → Means (AND ∷ Goes P.Obtained ∷ []) ts us → MeansPart P.ObtainedOne ts us
  row_obtained_one_4 (token A a (phrase o end)) = (λ x h. obtained_tail law x h (and_tail a o.1))

  pub row_obtained_one_5 : {ts us : List Lexeme} → Means (COLON ∷ TERM ∷ Goes P.Pattern ∷ Goes P.MoreProps ∷ []) ts us → MeansPart P.ObtainedOne ts us
  row_obtained_one_5 (token C c (token T t (phrase ps (phrase r end)))) = (λ x h. (_, obtained_props (props (group (a_label (named_label (ident_name law x h) no_atts c)) (prop t ps.1) r.3) r.4)))

  pub row_obtained_one_6 : {ts us : List Lexeme} → Means (LEFT ∷ Goes P.Att ∷ Goes P.MoreAtts ∷ RIGHT ∷ COLON ∷ TERM ∷ Goes P.Pattern ∷ Goes P.MoreProps ∷ []) ts us → MeansPart P.ObtainedOne ts us
  row_obtained_one_6 (token A a (phrase y (phrase ys (token B b (token C c (token T t (phrase ps (phrase r end)))))))) = (λ x h. (_, obtained_props (props (group (a_label (named_label (ident_name law x h) (some_atts (atts a y.1 ys.1 b)) c)) (prop t ps.1) r.3) r.4)))

  pub row_obtained_one_7 : {ts us : List Lexeme} → Means (OPEN ∷ IS ∷ TERM ∷ Goes P.Terms ∷ CLOSE ∷ Goes P.MoreProps ∷ []) ts us → MeansPart P.ObtainedOne ts us
  row_obtained_one_7 (token A a (token W w (token T t (phrase xs (token B b (phrase r end)))))) = (λ x h. (_, obtained_props (props (group no_label (prop (ident_term law x h) (patterns a w t xs.1 b)) r.3) r.4)))

  pub row_obtained_one_8 : {ts us : List Lexeme} → Means (NO_IDENT ∷ Goes P.Pattern ∷ Goes P.MoreProps ∷ []) ts us → MeansPart P.ObtainedOne ts us
  row_obtained_one_8 (token T t (phrase ps (phrase r end))) = (λ x h. obtained_tail law x h (prop_tail (more_props (prop (no_ident_term law T t) ps.1) r.3) r.4))

  pub part_obtained_one : (r : List Symbol) → IsIn r (forms P.ObtainedOne) → {ts us : List Lexeme} → Means r ts us → MeansPart P.ObtainedOne ts us
  part_obtained_one r (inl e) {ts = ts} {us = us} m = row_obtained_one_0 (subst (λ q. Means q ts us) e m)
  part_obtained_one r (inr (inl e)) {ts = ts} {us = us} m = row_obtained_one_1 (subst (λ q. Means q ts us) e m)
  part_obtained_one r (inr (inr (inl e))) {ts = ts} {us = us} m = row_obtained_one_2 (subst (λ q. Means q ts us) e m)
  part_obtained_one r (inr (inr (inr (inl e)))) {ts = ts} {us = us} m = row_obtained_one_3 (subst (λ q. Means q ts us) e m)
  part_obtained_one r (inr (inr (inr (inr (inl e))))) {ts = ts} {us = us} m = row_obtained_one_4 (subst (λ q. Means q ts us) e m)
  part_obtained_one r (inr (inr (inr (inr (inr (inl e)))))) {ts = ts} {us = us} m = row_obtained_one_5 (subst (λ q. Means q ts us) e m)
  part_obtained_one r (inr (inr (inr (inr (inr (inr (inl e))))))) {ts = ts} {us = us} m = row_obtained_one_6 (subst (λ q. Means q ts us) e m)
  part_obtained_one r (inr (inr (inr (inr (inr (inr (inr (inl e)))))))) {ts = ts} {us = us} m = row_obtained_one_7 (subst (λ q. Means q ts us) e m)
  part_obtained_one r (inr (inr (inr (inr (inr (inr (inr (inr (inl e))))))))) {ts = ts} {us = us} m = row_obtained_one_8 (subst (λ q. Means q ts us) e m)
  part_obtained_one r (inr (inr (inr (inr (inr (inr (inr (inr (inr (e)))))))))) m = elim e [ ]

  pub row_obtained_more_0 : {ts us : List Lexeme} → Means ([]) ts us → MeansPart P.ObtainedMore ts us
  row_obtained_more_0 end = (λ x h. ident_tail law x h (prop_tail no_more_props no_more_groups))

  pub row_obtained_more_1 : {ts us : List Lexeme} → Means (IDENTIFIER ∷ Goes P.ObtainedMore ∷ []) ts us → MeansPart P.ObtainedMore ts us
  row_obtained_more_1 (token Y y (phrase f end)) = (λ x h. ident_tail law x h (f Y y))

  pub row_obtained_more_2 : {ts us : List Lexeme} → Means (COLONS ∷ TYPE ∷ Goes P.MoreVars ∷ WHERE ∷ Goes P.Props ∷ []) ts us → MeansPart P.ObtainedMore ts us
  row_obtained_more_2 (token C c (token T t (phrase gs (token W w (phrase ps end))))) = (λ x h. ident_tail law x h (var_tail no_more (of_type c t) gs.1 w ps.1))

  pub row_obtained_more_3 : {ts us : List Lexeme} → Means (WHERE ∷ Goes P.Props ∷ []) ts us → MeansPart P.ObtainedMore ts us
  row_obtained_more_3 (token W w (phrase ps end)) = (λ x h. ident_tail law x h (var_tail no_more no_type no_more_vars w ps.1))

  pub row_obtained_more_4 : {ts us : List Lexeme} → Means (AND ∷ Goes P.Obtained ∷ []) ts us → MeansPart P.ObtainedMore ts us
  row_obtained_more_4 (token A a (phrase o end)) = (λ x h. ident_tail law x h (and_tail a o.1))

  pub row_obtained_more_5 : {ts us : List Lexeme} → Means (OPEN ∷ IS ∷ TERM ∷ Goes P.Terms ∷ CLOSE ∷ Goes P.MoreProps ∷ []) ts us → MeansPart P.ObtainedMore ts us
  row_obtained_more_5 (token A a (token W w (token T t (phrase xs (token B b (phrase r end)))))) = (λ x h. prop_tail (more_props (prop (ident_term law x h) (patterns a w t xs.1 b)) r.3) r.4)

  pub row_obtained_more_6 : {ts us : List Lexeme} → Means (NO_IDENT ∷ Goes P.Pattern ∷ Goes P.MoreProps ∷ []) ts us → MeansPart P.ObtainedMore ts us
  row_obtained_more_6 (token T t (phrase ps (phrase r end))) = (λ x h. ident_tail law x h (prop_tail (more_props (prop (no_ident_term law T t) ps.1) r.3) r.4))

  pub part_obtained_more : (r : List Symbol) → IsIn r (forms P.ObtainedMore) → {ts us : List Lexeme} → Means r ts us → MeansPart P.ObtainedMore ts us
  part_obtained_more r (inl e) {ts = ts} {us = us} m = row_obtained_more_0 (subst (λ q. Means q ts us) e m)
  part_obtained_more r (inr (inl e)) {ts = ts} {us = us} m = row_obtained_more_1 (subst (λ q. Means q ts us) e m)
  part_obtained_more r (inr (inr (inl e))) {ts = ts} {us = us} m = row_obtained_more_2 (subst (λ q. Means q ts us) e m)
  part_obtained_more r (inr (inr (inr (inl e)))) {ts = ts} {us = us} m = row_obtained_more_3 (subst (λ q. Means q ts us) e m)
  part_obtained_more r (inr (inr (inr (inr (inl e))))) {ts = ts} {us = us} m = row_obtained_more_4 (subst (λ q. Means q ts us) e m)
  part_obtained_more r (inr (inr (inr (inr (inr (inl e)))))) {ts = ts} {us = us} m = row_obtained_more_5 (subst (λ q. Means q ts us) e m)
  part_obtained_more r (inr (inr (inr (inr (inr (inr (inl e))))))) {ts = ts} {us = us} m = row_obtained_more_6 (subst (λ q. Means q ts us) e m)
  part_obtained_more r (inr (inr (inr (inr (inr (inr (inr (e)))))))) m = elim e [ ]
