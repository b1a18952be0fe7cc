-- Written by tools/outer_means.py from tools/meanings.txt.
-- What the rows of the table mean.
use Rattle.std.proofs.Common.{List, [], ◌∷◌, refl, subst, inl, inr}
use Rattle.iv_recogniser.specs.declared.class.Class.TheVariants as class
use Rattle.iv_recogniser.specs.declared.class.Sort.TheVariants as sort
use Rattle.iv_recogniser.specs.declared.part.Part.TheVariants as P
use Rattle.iv_recogniser.specs.declared.part.Symbol.{Symbol}
use Rattle.iv_recogniser.specs.declared.part.Symbol.TheVariants.{Goes}
use Rattle.iv_recogniser.specs.Table.{AND, CLOSE, COMMA, DUMMY, EQUAL, IDENTIFIER, LEFT, MARK, MINUS, NAME, NUMERAL, OF_FACTS, OF_TERMS, OPEN, OTHER_NAME, RIGHT, TERM, THEN_FACT, WHERE}
use Rattle.iv_forms.specs.declared.lexeme.Lexeme.{Lexeme}
use Rattle.iv_forms.specs.FactForm.{and_facts, att_name, atts, fact, fact_given, fact_hole, facts, more_atts, more_facts, more_sels, more_wheres, no_atts, no_mark, no_more_atts, no_more_facts, no_more_sels, no_more_wheres, no_places, no_sels, no_term_places, of_facts, of_terms, one, places, range, sels, some_atts, term_given, term_hole, term_places, then_fact, where_are, where_is}
use Rattle.iv_forms.proofs.Sorts.{Law, within}
use Rattle.iv_forms.proofs.Means.{Means, MeansPart, end, phrase, token}
use Rattle.iv_forms.proofs.Helpers.{mark_of}
use Rattle.iv_recogniser.specs.Table.{forms}
use Rattle.iv_recogniser.specs.Spell.{IsIn}

module _ (law : Law) where
  pub row_fact_0 : {ts us : List Lexeme} → Means (NAME ∷ Goes P.Sels ∷ Goes P.OptAtts ∷ []) ts us → MeansPart P.Fact ts us
  row_fact_0 (token N n (phrase ss (phrase xs end))) = (_, fact n ss.1 xs.1)

  pub part_fact : (r : List Symbol) → IsIn r (forms P.Fact) → {ts us : List Lexeme} → Means r ts us → MeansPart P.Fact ts us
  part_fact r (inl e) {ts = ts} {us = us} m = row_fact_0 (subst (λ q. Means q ts us) e m)
  part_fact r (inr (e)) m = elim e [ ]

  pub row_facts_0 : {ts us : List Lexeme} → Means (NAME ∷ Goes P.Sels ∷ Goes P.OptAtts ∷ Goes P.MoreFacts ∷ []) ts us → MeansPart P.Facts ts us
  row_facts_0 (token N n (phrase ss (phrase xs (phrase fs end)))) = (_, facts (fact n ss.1 xs.1) fs.1)

  pub part_facts : (r : List Symbol) → IsIn r (forms P.Facts) → {ts us : List Lexeme} → Means r ts us → MeansPart P.Facts ts us
  part_facts r (inl e) {ts = ts} {us = us} m = row_facts_0 (subst (λ q. Means q ts us) e m)
  part_facts r (inr (e)) m = elim e [ ]

  pub row_more_facts_0 : {ts us : List Lexeme} → Means ([]) ts us → MeansPart P.MoreFacts ts us
  row_more_facts_0 end = (_, no_more_facts)

  pub row_more_facts_1 : {ts us : List Lexeme} → Means (AND ∷ Goes P.Fact ∷ Goes P.MoreFacts ∷ []) ts us → MeansPart P.MoreFacts ts us
  row_more_facts_1 (token A a (phrase f (phrase fs end))) = (_, and_facts a f.1 fs.1)

  pub row_more_facts_2 : {ts us : List Lexeme} → Means (NAME ∷ Goes P.Sels ∷ Goes P.OptAtts ∷ Goes P.MoreFacts ∷ []) ts us → MeansPart P.MoreFacts ts us
  row_more_facts_2 (token N n (phrase ss (phrase xs (phrase fs end)))) = (_, more_facts (fact n ss.1 xs.1) fs.1)

  pub part_more_facts : (r : List Symbol) → IsIn r (forms P.MoreFacts) → {ts us : List Lexeme} → Means r ts us → MeansPart P.MoreFacts ts us
  part_more_facts r (inl e) {ts = ts} {us = us} m = row_more_facts_0 (subst (λ q. Means q ts us) e m)
  part_more_facts r (inr (inl e)) {ts = ts} {us = us} m = row_more_facts_1 (subst (λ q. Means q ts us) e m)
  part_more_facts r (inr (inr (inl e))) {ts = ts} {us = us} m = row_more_facts_2 (subst (λ q. Means q ts us) e m)
  part_more_facts r (inr (inr (inr (e)))) m = elim e [ ]

  pub row_sels_0 : {ts us : List Lexeme} → Means ([]) ts us → MeansPart P.Sels ts us
  row_sels_0 end = (_, no_sels)

  pub row_sels_1 : {ts us : List Lexeme} → Means (OPEN ∷ Goes P.Sel ∷ Goes P.MoreSels ∷ CLOSE ∷ []) ts us → MeansPart P.Sels ts us
  row_sels_1 (token A a (phrase s (phrase ss (token B b end)))) = (_, sels a s.1 ss.1 b)

  pub part_sels : (r : List Symbol) → IsIn r (forms P.Sels) → {ts us : List Lexeme} → Means r ts us → MeansPart P.Sels ts us
  part_sels r (inl e) {ts = ts} {us = us} m = row_sels_0 (subst (λ q. Means q ts us) e m)
  part_sels r (inr (inl e)) {ts = ts} {us = us} m = row_sels_1 (subst (λ q. Means q ts us) e m)
  part_sels r (inr (inr (e))) m = elim e [ ]

  pub row_sel_0 : {ts us : List Lexeme} → Means (NUMERAL ∷ Goes P.SelTo ∷ []) ts us → MeansPart P.Sel ts us
  row_sel_0 (token N n (phrase f end)) = f N n

  pub part_sel : (r : List Symbol) → IsIn r (forms P.Sel) → {ts us : List Lexeme} → Means r ts us → MeansPart P.Sel ts us
  part_sel r (inl e) {ts = ts} {us = us} m = row_sel_0 (subst (λ q. Means q ts us) e m)
  part_sel r (inr (e)) m = elim e [ ]

  pub row_sel_to_0 : {ts us : List Lexeme} → Means ([]) ts us → MeansPart P.SelTo ts us
  row_sel_to_0 end = (λ n h. (_, one h))

  pub row_sel_to_1 : {ts us : List Lexeme} → Means (MINUS ∷ NUMERAL ∷ []) ts us → MeansPart P.SelTo ts us
  row_sel_to_1 (token D d (token M m end)) = (λ n h. (_, range h d m))

  pub part_sel_to : (r : List Symbol) → IsIn r (forms P.SelTo) → {ts us : List Lexeme} → Means r ts us → MeansPart P.SelTo ts us
  part_sel_to r (inl e) {ts = ts} {us = us} m = row_sel_to_0 (subst (λ q. Means q ts us) e m)
  part_sel_to r (inr (inl e)) {ts = ts} {us = us} m = row_sel_to_1 (subst (λ q. Means q ts us) e m)
  part_sel_to r (inr (inr (e))) m = elim e [ ]

  pub row_more_sels_0 : {ts us : List Lexeme} → Means ([]) ts us → MeansPart P.MoreSels ts us
  row_more_sels_0 end = (_, no_more_sels)

  pub row_more_sels_1 : {ts us : List Lexeme} → Means (COMMA ∷ Goes P.Sel ∷ Goes P.MoreSels ∷ []) ts us → MeansPart P.MoreSels ts us
  row_more_sels_1 (token C c (phrase s (phrase ss end))) = (_, more_sels c s.1 ss.1)

  pub part_more_sels : (r : List Symbol) → IsIn r (forms P.MoreSels) → {ts us : List Lexeme} → Means r ts us → MeansPart P.MoreSels ts us
  part_more_sels r (inl e) {ts = ts} {us = us} m = row_more_sels_0 (subst (λ q. Means q ts us) e m)
  part_more_sels r (inr (inl e)) {ts = ts} {us = us} m = row_more_sels_1 (subst (λ q. Means q ts us) e m)
  part_more_sels r (inr (inr (e))) m = elim e [ ]

  pub row_opt_atts_0 : {ts us : List Lexeme} → Means ([]) ts us → MeansPart P.OptAtts ts us
  row_opt_atts_0 end = (_, no_atts)

  pub row_opt_atts_1 : {ts us : List Lexeme} → Means (LEFT ∷ Goes P.Att ∷ Goes P.MoreAtts ∷ RIGHT ∷ []) ts us → MeansPart P.OptAtts ts us
  row_opt_atts_1 (token A a (phrase x (phrase xs (token B b end)))) = (_, some_atts (atts a x.1 xs.1 b))

  pub part_opt_atts : (r : List Symbol) → IsIn r (forms P.OptAtts) → {ts us : List Lexeme} → Means r ts us → MeansPart P.OptAtts ts us
  part_opt_atts r (inl e) {ts = ts} {us = us} m = row_opt_atts_0 (subst (λ q. Means q ts us) e m)
  part_opt_atts r (inr (inl e)) {ts = ts} {us = us} m = row_opt_atts_1 (subst (λ q. Means q ts us) e m)
  part_opt_atts r (inr (inr (e))) m = elim e [ ]

  pub row_more_atts_0 : {ts us : List Lexeme} → Means ([]) ts us → MeansPart P.MoreAtts ts us
  row_more_atts_0 end = (_, no_more_atts)

  pub row_more_atts_1 : {ts us : List Lexeme} → Means (COMMA ∷ Goes P.Att ∷ Goes P.MoreAtts ∷ []) ts us → MeansPart P.MoreAtts ts us
  row_more_atts_1 (token C c (phrase x (phrase xs end))) = (_, more_atts c x.1 xs.1)

  pub part_more_atts : (r : List Symbol) → IsIn r (forms P.MoreAtts) → {ts us : List Lexeme} → Means r ts us → MeansPart P.MoreAtts ts us
  part_more_atts r (inl e) {ts = ts} {us = us} m = row_more_atts_0 (subst (λ q. Means q ts us) e m)
  part_more_atts r (inr (inl e)) {ts = ts} {us = us} m = row_more_atts_1 (subst (λ q. Means q ts us) e m)
  part_more_atts r (inr (inr (e))) m = elim e [ ]

  pub row_att_0 : {ts us : List Lexeme} → Means (OF_FACTS ∷ Goes P.OfFacts ∷ []) ts us → MeansPart P.Att ts us
  row_att_0 (token W w (phrase f end)) = f W w

  pub row_att_1 : {ts us : List Lexeme} → Means (THEN_FACT ∷ Goes P.ThenFact ∷ []) ts us → MeansPart P.Att ts us
  row_att_1 (token W w (phrase f end)) = f W w

  pub row_att_2 : {ts us : List Lexeme} → Means (OF_TERMS ∷ Goes P.OfTerms ∷ []) ts us → MeansPart P.Att ts us
  row_att_2 (token W w (phrase f end)) = f W w

  pub row_att_3 : {ts us : List Lexeme} → Means (WHERE ∷ IDENTIFIER ∷ EQUAL ∷ TERM ∷ Goes P.MoreWheres ∷ []) ts us → MeansPart P.Att ts us
  row_att_3 (token W w (token X x (token E e (token T t (phrase es end))))) = (_, where_are w (where_is x e t) es.1)

  pub row_att_4 : {ts us : List Lexeme} → Means (OTHER_NAME ∷ Goes P.OptMark ∷ []) ts us → MeansPart P.Att ts us
  row_att_4 (token N n (phrase m end)) = (_, att_name (within law sort.OtherName sort.Name refl N n) m.1)

  pub part_att : (r : List Symbol) → IsIn r (forms P.Att) → {ts us : List Lexeme} → Means r ts us → MeansPart P.Att ts us
  part_att r (inl e) {ts = ts} {us = us} m = row_att_0 (subst (λ q. Means q ts us) e m)
  part_att r (inr (inl e)) {ts = ts} {us = us} m = row_att_1 (subst (λ q. Means q ts us) e m)
  part_att r (inr (inr (inl e))) {ts = ts} {us = us} m = row_att_2 (subst (λ q. Means q ts us) e m)
  part_att r (inr (inr (inr (inl e)))) {ts = ts} {us = us} m = row_att_3 (subst (λ q. Means q ts us) e m)
  part_att r (inr (inr (inr (inr (inl e))))) {ts = ts} {us = us} m = row_att_4 (subst (λ q. Means q ts us) e m)
  part_att r (inr (inr (inr (inr (inr (e)))))) m = elim e [ ]

  pub row_opt_mark_0 : {ts us : List Lexeme} → Means ([]) ts us → MeansPart P.OptMark ts us
  row_opt_mark_0 end = (_, no_mark)

  pub row_opt_mark_1 : {ts us : List Lexeme} → Means (MARK ∷ []) ts us → MeansPart P.OptMark ts us
  row_opt_mark_1 (token M m end) = mark_of M m

  pub part_opt_mark : (r : List Symbol) → IsIn r (forms P.OptMark) → {ts us : List Lexeme} → Means r ts us → MeansPart P.OptMark ts us
  part_opt_mark r (inl e) {ts = ts} {us = us} m = row_opt_mark_0 (subst (λ q. Means q ts us) e m)
  part_opt_mark r (inr (inl e)) {ts = ts} {us = us} m = row_opt_mark_1 (subst (λ q. Means q ts us) e m)
  part_opt_mark r (inr (inr (e))) m = elim e [ ]

  pub row_of_facts_0 : {ts us : List Lexeme} → Means ([]) ts us → MeansPart P.OfFacts ts us
  row_of_facts_0 end = (λ w h. (_, att_name (within law (sort.Only class.OfFacts) sort.Name refl w h) no_mark))

  pub row_of_facts_1 : {ts us : List Lexeme} → Means (MARK ∷ []) ts us → MeansPart P.OfFacts ts us
  row_of_facts_1 (token M m end) = (λ w h. (_, att_name (within law (sort.Only class.OfFacts) sort.Name refl w h) (mark_of M m).1))

  pub row_of_facts_2 : {ts us : List Lexeme} → Means (NAME ∷ Goes P.Sels ∷ Goes P.OptAtts ∷ Goes P.FactPlaces ∷ []) ts us → MeansPart P.OfFacts ts us
  row_of_facts_2 (token N n (phrase ss (phrase xs (phrase ps end)))) = (λ w h. (_, of_facts h (fact_given (fact n ss.1 xs.1)) ps.1))

  pub row_of_facts_3 : {ts us : List Lexeme} → Means (DUMMY ∷ Goes P.FactPlaces ∷ []) ts us → MeansPart P.OfFacts ts us
  row_of_facts_3 (token D d (phrase ps end)) = (λ w h. (_, of_facts h (fact_hole d) ps.1))

  pub part_of_facts : (r : List Symbol) → IsIn r (forms P.OfFacts) → {ts us : List Lexeme} → Means r ts us → MeansPart P.OfFacts ts us
  part_of_facts r (inl e) {ts = ts} {us = us} m = row_of_facts_0 (subst (λ q. Means q ts us) e m)
  part_of_facts r (inr (inl e)) {ts = ts} {us = us} m = row_of_facts_1 (subst (λ q. Means q ts us) e m)
  part_of_facts r (inr (inr (inl e))) {ts = ts} {us = us} m = row_of_facts_2 (subst (λ q. Means q ts us) e m)
  part_of_facts r (inr (inr (inr (inl e)))) {ts = ts} {us = us} m = row_of_facts_3 (subst (λ q. Means q ts us) e m)
  part_of_facts r (inr (inr (inr (inr (e))))) m = elim e [ ]

  pub row_fact_places_0 : {ts us : List Lexeme} → Means ([]) ts us → MeansPart P.FactPlaces ts us
  row_fact_places_0 end = (_, no_places)

  pub row_fact_places_1 : {ts us : List Lexeme} → Means (NAME ∷ Goes P.Sels ∷ Goes P.OptAtts ∷ Goes P.FactPlaces ∷ []) ts us → MeansPart P.FactPlaces ts us
  row_fact_places_1 (token N n (phrase ss (phrase xs (phrase ps end)))) = (_, places (fact_given (fact n ss.1 xs.1)) ps.1)

  pub row_fact_places_2 : {ts us : List Lexeme} → Means (DUMMY ∷ Goes P.FactPlaces ∷ []) ts us → MeansPart P.FactPlaces ts us
  row_fact_places_2 (token D d (phrase ps end)) = (_, places (fact_hole d) ps.1)

  pub part_fact_places : (r : List Symbol) → IsIn r (forms P.FactPlaces) → {ts us : List Lexeme} → Means r ts us → MeansPart P.FactPlaces ts us
  part_fact_places r (inl e) {ts = ts} {us = us} m = row_fact_places_0 (subst (λ q. Means q ts us) e m)
  part_fact_places r (inr (inl e)) {ts = ts} {us = us} m = row_fact_places_1 (subst (λ q. Means q ts us) e m)
  part_fact_places r (inr (inr (inl e))) {ts = ts} {us = us} m = row_fact_places_2 (subst (λ q. Means q ts us) e m)
  part_fact_places r (inr (inr (inr (e)))) m = elim e [ ]

  pub row_then_fact_0 : {ts us : List Lexeme} → Means ([]) ts us → MeansPart P.ThenFact ts us
  row_then_fact_0 end = (λ w h. (_, att_name (within law (sort.Only class.ThenFact) sort.Name refl w h) no_mark))

  pub row_then_fact_1 : {ts us : List Lexeme} → Means (MARK ∷ []) ts us → MeansPart P.ThenFact ts us
  row_then_fact_1 (token M m end) = (λ w h. (_, att_name (within law (sort.Only class.ThenFact) sort.Name refl w h) (mark_of M m).1))

  pub row_then_fact_2 : {ts us : List Lexeme} → Means (NAME ∷ Goes P.Sels ∷ Goes P.OptAtts ∷ []) ts us → MeansPart P.ThenFact ts us
  row_then_fact_2 (token N n (phrase ss (phrase xs end))) = (λ w h. (_, then_fact h (fact n ss.1 xs.1)))

  pub part_then_fact : (r : List Symbol) → IsIn r (forms P.ThenFact) → {ts us : List Lexeme} → Means r ts us → MeansPart P.ThenFact ts us
  part_then_fact r (inl e) {ts = ts} {us = us} m = row_then_fact_0 (subst (λ q. Means q ts us) e m)
  part_then_fact r (inr (inl e)) {ts = ts} {us = us} m = row_then_fact_1 (subst (λ q. Means q ts us) e m)
  part_then_fact r (inr (inr (inl e))) {ts = ts} {us = us} m = row_then_fact_2 (subst (λ q. Means q ts us) e m)
  part_then_fact r (inr (inr (inr (e)))) m = elim e [ ]

  pub row_of_terms_0 : {ts us : List Lexeme} → Means ([]) ts us → MeansPart P.OfTerms ts us
  row_of_terms_0 end = (λ w h. (_, att_name (within law (sort.Only class.OfTerms) sort.Name refl w h) no_mark))

  pub row_of_terms_1 : {ts us : List Lexeme} → Means (MARK ∷ []) ts us → MeansPart P.OfTerms ts us
  row_of_terms_1 (token M m end) = (λ w h. (_, att_name (within law (sort.Only class.OfTerms) sort.Name refl w h) (mark_of M m).1))

  pub row_of_terms_2 : {ts us : List Lexeme} → Means (TERM ∷ Goes P.TermPlaces ∷ []) ts us → MeansPart P.OfTerms ts us
  row_of_terms_2 (token T t (phrase ps end)) = (λ w h. (_, of_terms h (term_given t) ps.1))

  pub row_of_terms_3 : {ts us : List Lexeme} → Means (DUMMY ∷ Goes P.TermPlaces ∷ []) ts us → MeansPart P.OfTerms ts us
  row_of_terms_3 (token D d (phrase ps end)) = (λ w h. (_, of_terms h (term_hole d) ps.1))

  pub part_of_terms : (r : List Symbol) → IsIn r (forms P.OfTerms) → {ts us : List Lexeme} → Means r ts us → MeansPart P.OfTerms ts us
  part_of_terms r (inl e) {ts = ts} {us = us} m = row_of_terms_0 (subst (λ q. Means q ts us) e m)
  part_of_terms r (inr (inl e)) {ts = ts} {us = us} m = row_of_terms_1 (subst (λ q. Means q ts us) e m)
  part_of_terms r (inr (inr (inl e))) {ts = ts} {us = us} m = row_of_terms_2 (subst (λ q. Means q ts us) e m)
  part_of_terms r (inr (inr (inr (inl e)))) {ts = ts} {us = us} m = row_of_terms_3 (subst (λ q. Means q ts us) e m)
  part_of_terms r (inr (inr (inr (inr (e))))) m = elim e [ ]

  pub row_term_places_0 : {ts us : List Lexeme} → Means ([]) ts us → MeansPart P.TermPlaces ts us
  row_term_places_0 end = (_, no_term_places)

  pub row_term_places_1 : {ts us : List Lexeme} → Means (TERM ∷ Goes P.TermPlaces ∷ []) ts us → MeansPart P.TermPlaces ts us
  row_term_places_1 (token T t (phrase ps end)) = (_, term_places (term_given t) ps.1)

  pub row_term_places_2 : {ts us : List Lexeme} → Means (DUMMY ∷ Goes P.TermPlaces ∷ []) ts us → MeansPart P.TermPlaces ts us
  row_term_places_2 (token D d (phrase ps end)) = (_, term_places (term_hole d) ps.1)

  pub part_term_places : (r : List Symbol) → IsIn r (forms P.TermPlaces) → {ts us : List Lexeme} → Means r ts us → MeansPart P.TermPlaces ts us
  part_term_places r (inl e) {ts = ts} {us = us} m = row_term_places_0 (subst (λ q. Means q ts us) e m)
  part_term_places r (inr (inl e)) {ts = ts} {us = us} m = row_term_places_1 (subst (λ q. Means q ts us) e m)
  part_term_places r (inr (inr (inl e))) {ts = ts} {us = us} m = row_term_places_2 (subst (λ q. Means q ts us) e m)
  part_term_places r (inr (inr (inr (e)))) m = elim e [ ]

  pub row_more_wheres_0 : {ts us : List Lexeme} → Means ([]) ts us → MeansPart P.MoreWheres ts us
  row_more_wheres_0 end = (_, no_more_wheres)

  pub row_more_wheres_1 : {ts us : List Lexeme} → Means (AND ∷ IDENTIFIER ∷ EQUAL ∷ TERM ∷ Goes P.MoreWheres ∷ []) ts us → MeansPart P.MoreWheres ts us
  row_more_wheres_1 (token A a (token X x (token E e (token T t (phrase es end))))) = (_, more_wheres a (where_is x e t) es.1)

  pub part_more_wheres : (r : List Symbol) → IsIn r (forms P.MoreWheres) → {ts us : List Lexeme} → Means r ts us → MeansPart P.MoreWheres ts us
  part_more_wheres r (inl e) {ts = ts} {us = us} m = row_more_wheres_0 (subst (λ q. Means q ts us) e m)
  part_more_wheres r (inr (inl e)) {ts = ts} {us = us} m = row_more_wheres_1 (subst (λ q. Means q ts us) e m)
  part_more_wheres r (inr (inr (e))) m = elim e [ ]
