-- From the forms back to the table. Written by tools/outer_back.py from tools/back.txt.
use Rattle.std.proofs.Common.{List, [], ◌∷◌, refl, inl, inr}
use Rattle.iv_recogniser.specs.declared.class.Sort.TheVariants as sort
use Rattle.iv_recogniser.specs.declared.part.Part.TheVariants as P
use Rattle.iv_recogniser.specs.declared.part.Symbol.{Symbol}
use Rattle.iv_recogniser.specs.declared.part.Symbol.TheVariants.{Goes}
use Rattle.iv_recogniser.specs.Table.{AND, CLOSE, COMMA, DUMMY, EQUAL, IDENTIFIER, LEFT, MARK, MINUS, NAME, NUMERAL, OF_FACTS, OF_TERMS, OPEN, OTHER_NAME, RIGHT, TERM, THEN_FACT, WHERE}
use Rattle.iv_forms.specs.declared.lexeme.Lexeme.{Lexeme}
use Rattle.iv_forms.specs.Lexeme.{AreAll, Is, no_more, one_more}
use Rattle.iv_forms.specs.FactForm.{IsAtt, IsFact, IsFacts, IsMark, IsMoreAtts, IsMoreFacts, IsMoreSels, IsMoreWheres, IsOptAtts, IsPlaces, IsSel, IsSels, IsTermPlaces, and_facts, att_name, atts, fact, fact_given, fact_hole, facts, more_atts, more_facts, more_sels, more_wheres, no_atts, no_mark, no_more_atts, no_more_facts, no_more_sels, no_more_wheres, no_places, no_sels, no_term_places, of_facts, of_terms, one, places, range, sels, some_atts, strong, term_given, term_hole, term_places, then_fact, weak, where_are, where_is}
use Rattle.iv_forms.proofs.Sorts.{Law}
use Rattle.iv_lex.specs.declared.cutting.Token.{Token}
use Rattle.iv_forms.specs.declared.fact.Sel.{Sel}
use Rattle.iv_forms.specs.declared.fact.Mark.{Mark}
use Rattle.iv_forms.specs.declared.fact.Where.{Where}
use Rattle.iv_forms.specs.declared.fact.TermPlace.{TermPlace}
use Rattle.iv_forms.specs.declared.fact.Fact.{Fact}
use Rattle.iv_forms.specs.declared.fact.Att.{Att}
use Rattle.iv_forms.specs.declared.fact.Place.{Place}
use Rattle.iv_recogniser.specs.Spell.{word, part}
use Rattle.iv_forms.proofs.Splits.{by_att, strong_mark, weak_mark}
use Rattle.iv_forms.proofs.Splits.{S}

module _ (law : Law) where
  -- tokens
  pub names_s : {v : List Token} {s : List Symbol} {ts us : List Lexeme} → AreAll sort.Name v ts us → S s us → S (Goes P.Names ∷ s) ts
  names_s no_more d = part ([]) (inl refl) d
  names_s (one_more h xs) d = part (NAME ∷ Goes P.Names ∷ []) (inr (inl refl)) (word h (names_s xs d))

  pub idents_s : {v : List Token} {s : List Symbol} {ts us : List Lexeme} → AreAll sort.Identifier v ts us → S s us → S (Goes P.Idents ∷ s) ts
  idents_s no_more d = part ([]) (inl refl) d
  idents_s (one_more h xs) d = part (IDENTIFIER ∷ Goes P.Idents ∷ []) (inr (inl refl)) (word h (idents_s xs d))

  pub terms_s : {v : List Token} {s : List Symbol} {ts us : List Lexeme} → AreAll sort.Term v ts us → S s us → S (Goes P.Terms ∷ s) ts
  terms_s no_more d = part ([]) (inl refl) d
  terms_s (one_more h xs) d = part (TERM ∷ Goes P.Terms ∷ []) (inr (inl refl)) (word h (terms_s xs d))

  -- facts
  pub sel_s : {v : Sel} {s : List Symbol} {ts us : List Lexeme} → IsSel v ts us → S s us → S (Goes P.Sel ∷ s) ts
  sel_s (one n) d = part (NUMERAL ∷ Goes P.SelTo ∷ []) (inl refl) (word n (part ([]) (inl refl) d))
  sel_s (range n e m) d = part (NUMERAL ∷ Goes P.SelTo ∷ []) (inl refl) (word n (part (MINUS ∷ NUMERAL ∷ []) (inr (inl refl)) (word e (word m d))))

  pub more_sels_s : {v : List Sel} {s : List Symbol} {ts us : List Lexeme} → IsMoreSels v ts us → S s us → S (Goes P.MoreSels ∷ s) ts
  more_sels_s no_more_sels d = part ([]) (inl refl) d
  more_sels_s (more_sels c s ss) d = part (COMMA ∷ Goes P.Sel ∷ Goes P.MoreSels ∷ []) (inr (inl refl)) (word c (sel_s s (more_sels_s ss d)))

  pub sels_s : {v : List Sel} {s : List Symbol} {ts us : List Lexeme} → IsSels v ts us → S s us → S (Goes P.Sels ∷ s) ts
  sels_s no_sels d = part ([]) (inl refl) d
  sels_s (sels a s ss b) d = part (OPEN ∷ Goes P.Sel ∷ Goes P.MoreSels ∷ CLOSE ∷ []) (inr (inl refl)) (word a (sel_s s (more_sels_s ss (word b d))))

  pub mark_s : {v : Mark} {s : List Symbol} {ts us : List Lexeme} → IsMark v ts us → S s us → S (Goes P.OptMark ∷ s) ts
  mark_s no_mark d = part ([]) (inl refl) d
  mark_s (strong {e = t} h) d = part (MARK ∷ []) (inr (inl refl)) (word (strong_mark law t h) d)
  mark_s (weak {q = t} h) d = part (MARK ∷ []) (inr (inl refl)) (word (weak_mark law t h) d)

  pub of_facts_mark : {v : Mark} {s : List Symbol} {ts us : List Lexeme} → IsMark v ts us → S s us → S (Goes P.OfFacts ∷ s) ts
  of_facts_mark no_mark d = part ([]) (inl refl) d
  of_facts_mark (strong {e = t} h) d = part (MARK ∷ []) (inr (inl refl)) (word (strong_mark law t h) d)
  of_facts_mark (weak {q = t} h) d = part (MARK ∷ []) (inr (inl refl)) (word (weak_mark law t h) d)

  pub then_fact_mark : {v : Mark} {s : List Symbol} {ts us : List Lexeme} → IsMark v ts us → S s us → S (Goes P.ThenFact ∷ s) ts
  then_fact_mark no_mark d = part ([]) (inl refl) d
  then_fact_mark (strong {e = t} h) d = part (MARK ∷ []) (inr (inl refl)) (word (strong_mark law t h) d)
  then_fact_mark (weak {q = t} h) d = part (MARK ∷ []) (inr (inl refl)) (word (weak_mark law t h) d)

  pub of_terms_mark : {v : Mark} {s : List Symbol} {ts us : List Lexeme} → IsMark v ts us → S s us → S (Goes P.OfTerms ∷ s) ts
  of_terms_mark no_mark d = part ([]) (inl refl) d
  of_terms_mark (strong {e = t} h) d = part (MARK ∷ []) (inr (inl refl)) (word (strong_mark law t h) d)
  of_terms_mark (weak {q = t} h) d = part (MARK ∷ []) (inr (inl refl)) (word (weak_mark law t h) d)

  pub term_places_s : {v : List TermPlace} {s : List Symbol} {ts us : List Lexeme} → IsTermPlaces v ts us → S s us → S (Goes P.TermPlaces ∷ s) ts
  term_places_s no_term_places d = part ([]) (inl refl) d
  term_places_s (term_places (term_given h) ps) d = part (TERM ∷ Goes P.TermPlaces ∷ []) (inr (inl refl)) (word h (term_places_s ps d))
  term_places_s (term_places (term_hole h) ps) d = part (DUMMY ∷ Goes P.TermPlaces ∷ []) (inr (inr (inl refl))) (word h (term_places_s ps d))

  pub more_wheres_s : {v : List Where} {s : List Symbol} {ts us : List Lexeme} → IsMoreWheres v ts us → S s us → S (Goes P.MoreWheres ∷ s) ts
  more_wheres_s no_more_wheres d = part ([]) (inl refl) d
  more_wheres_s (more_wheres a (where_is x e t) es) d = part (AND ∷ IDENTIFIER ∷ EQUAL ∷ TERM ∷ Goes P.MoreWheres ∷ []) (inr (inl refl)) (word a (word x (word e (word t (more_wheres_s es d)))))

  pub name_att : (t : Lexeme) {m : Mark} {s : List Symbol} {ts us : List Lexeme} → Is sort.Name t → IsMark m ts us → S s us → S (Goes P.Att ∷ s) (t ∷ ts)
  name_att t n m d = by_att law t n (λ h. part (OF_FACTS ∷ Goes P.OfFacts ∷ []) (inl refl) (word h (of_facts_mark m d))) (λ h. part (THEN_FACT ∷ Goes P.ThenFact ∷ []) (inr (inl refl)) (word h (then_fact_mark m d))) (λ h. part (OF_TERMS ∷ Goes P.OfTerms ∷ []) (inr (inr (inl refl))) (word h (of_terms_mark m d))) (λ h. part (OTHER_NAME ∷ Goes P.OptMark ∷ []) (inr (inr (inr (inr (inl refl))))) (word h (mark_s m d)))

  mutual
    pub fact_s : {v : Fact} {s : List Symbol} {ts us : List Lexeme} → IsFact v ts us → S s us → S (Goes P.Fact ∷ s) ts
    fact_s (fact n ss xs) d = part (NAME ∷ Goes P.Sels ∷ Goes P.OptAtts ∷ []) (inl refl) (word n (sels_s ss (opt_atts_s xs d)))

    pub opt_atts_s : {v : List Att} {s : List Symbol} {ts us : List Lexeme} → IsOptAtts v ts us → S s us → S (Goes P.OptAtts ∷ s) ts
    opt_atts_s no_atts d = part ([]) (inl refl) d
    opt_atts_s (some_atts (atts a x xs b)) d = part (LEFT ∷ Goes P.Att ∷ Goes P.MoreAtts ∷ RIGHT ∷ []) (inr (inl refl)) (word a (att_s x (more_atts_s xs (word b d))))

    pub more_atts_s : {v : List Att} {s : List Symbol} {ts us : List Lexeme} → IsMoreAtts v ts us → S s us → S (Goes P.MoreAtts ∷ s) ts
    more_atts_s no_more_atts d = part ([]) (inl refl) d
    more_atts_s (more_atts c x xs) d = part (COMMA ∷ Goes P.Att ∷ Goes P.MoreAtts ∷ []) (inr (inl refl)) (word c (att_s x (more_atts_s xs d)))

    pub att_s : {v : Att} {s : List Symbol} {ts us : List Lexeme} → IsAtt v ts us → S s us → S (Goes P.Att ∷ s) ts
    att_s (of_facts w (fact_hole h) ps) d = part (OF_FACTS ∷ Goes P.OfFacts ∷ []) (inl refl) (word w (part (DUMMY ∷ Goes P.FactPlaces ∷ []) (inr (inr (inr (inl refl)))) (word h (places_s ps d))))
    att_s (of_facts w (fact_given (fact n ss xs)) ps) d = part (OF_FACTS ∷ Goes P.OfFacts ∷ []) (inl refl) (word w (part (NAME ∷ Goes P.Sels ∷ Goes P.OptAtts ∷ Goes P.FactPlaces ∷ []) (inr (inr (inl refl))) (word n (sels_s ss (opt_atts_s xs (places_s ps d))))))
    att_s (then_fact w (fact n ss xs)) d = part (THEN_FACT ∷ Goes P.ThenFact ∷ []) (inr (inl refl)) (word w (part (NAME ∷ Goes P.Sels ∷ Goes P.OptAtts ∷ []) (inr (inr (inl refl))) (word n (sels_s ss (opt_atts_s xs d)))))
    att_s (of_terms w (term_given h) ps) d = part (OF_TERMS ∷ Goes P.OfTerms ∷ []) (inr (inr (inl refl))) (word w (part (TERM ∷ Goes P.TermPlaces ∷ []) (inr (inr (inl refl))) (word h (term_places_s ps d))))
    att_s (of_terms w (term_hole h) ps) d = part (OF_TERMS ∷ Goes P.OfTerms ∷ []) (inr (inr (inl refl))) (word w (part (DUMMY ∷ Goes P.TermPlaces ∷ []) (inr (inr (inr (inl refl)))) (word h (term_places_s ps d))))
    att_s (where_are w (where_is x e t) es) d = part (WHERE ∷ IDENTIFIER ∷ EQUAL ∷ TERM ∷ Goes P.MoreWheres ∷ []) (inr (inr (inr (inl refl)))) (word w (word x (word e (word t (more_wheres_s es d)))))
    att_s (att_name {n = t} n m) d = name_att t n m d

    pub places_s : {v : List Place} {s : List Symbol} {ts us : List Lexeme} → IsPlaces v ts us → S s us → S (Goes P.FactPlaces ∷ s) ts
    places_s no_places d = part ([]) (inl refl) d
    places_s (places (fact_given (fact n ss xs)) ps) d = part (NAME ∷ Goes P.Sels ∷ Goes P.OptAtts ∷ Goes P.FactPlaces ∷ []) (inr (inl refl)) (word n (sels_s ss (opt_atts_s xs (places_s ps d))))
    places_s (places (fact_hole h) ps) d = part (DUMMY ∷ Goes P.FactPlaces ∷ []) (inr (inr (inl refl))) (word h (places_s ps d))

  pub more_facts_s : {v : List Fact} {s : List Symbol} {ts us : List Lexeme} → IsMoreFacts v ts us → S s us → S (Goes P.MoreFacts ∷ s) ts
  more_facts_s no_more_facts d = part ([]) (inl refl) d
  more_facts_s (and_facts a f fs) d = part (AND ∷ Goes P.Fact ∷ Goes P.MoreFacts ∷ []) (inr (inl refl)) (word a (fact_s f (more_facts_s fs d)))
  more_facts_s (more_facts (fact n ss xs) fs) d = part (NAME ∷ Goes P.Sels ∷ Goes P.OptAtts ∷ Goes P.MoreFacts ∷ []) (inr (inr (inl refl))) (word n (sels_s ss (opt_atts_s xs (more_facts_s fs d))))

  pub facts_s : {v : List Fact} {s : List Symbol} {ts us : List Lexeme} → IsFacts v ts us → S s us → S (Goes P.Facts ∷ s) ts
  facts_s (facts (fact n ss xs) fs) d = part (NAME ∷ Goes P.Sels ∷ Goes P.OptAtts ∷ Goes P.MoreFacts ∷ []) (inl refl) (word n (sels_s ss (opt_atts_s xs (more_facts_s fs d))))
