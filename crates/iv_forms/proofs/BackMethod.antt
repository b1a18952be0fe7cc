-- From the forms back to the table. Written by tools/outer_back.py from tools/back.txt.
use Rattle.std.proofs.Common.{ℕ, List, [], ◌∷◌, refl, inl, inr}
use Rattle.iv_recogniser.specs.declared.part.Part.TheVariants as P
use Rattle.iv_recogniser.specs.declared.part.Symbol.{Symbol}
use Rattle.iv_recogniser.specs.declared.part.Symbol.TheVariants.{Goes}
use Rattle.iv_recogniser.specs.Table.{AND, ARROW, BAR, CALL_NAME, CASE_BAR, CLOSE, COLON, COMMA, CONCLUSION, CUT, IDENTIFIER, IN, INTO, LEFT, LONG, MATCH, MINUS, NAME, NO_IDENT, NUMERAL, OPEN, OUT_OF, PLUS, PREMISES, QUESTION, RIGHT, RULE, SEMICOLON, SUBJECT_NAME, TERM}
use Rattle.iv_forms.specs.declared.lexeme.Lexeme.{Lexeme}
use Rattle.iv_forms.specs.FactForm.{IsMoreFacts, IsOptAtts, IsSels, and_facts, atts, fact, facts, more_facts, no_atts, no_more_facts, no_sels, sels, some_atts}
use Rattle.iv_forms.specs.MethodForm.{IsArgs, IsCases, IsCut, IsItem, IsMethod, IsMoreAlt, IsMoreCases, IsMorePatterns, IsMoreSemi, IsMoreSeq, IsOptMethod, IsOptNat, IsPattern, IsSections, IsSubject, IsSuffix, a_cut, a_method, a_number, alt, arg_method, arg_term, args, bar, case_is, cases, comma, conclusion, core_dash, core_name, core_paren, first, item_call, item_match, item_method, item_rule, item_sections, method, more_cases, more_patterns, named_pattern, no_args, no_bar, no_comma, no_cut, no_method, no_more_cases, no_more_patterns, no_number, no_sections, no_semicolon, no_suffix, pattern_, premises, repeat, section, sections, semi, semicolon, seq, subject_facts, subject_term, try}
use Rattle.iv_forms.proofs.Sorts.{Law}
use Rattle.std.specs.Prelude.{Option}
use Rattle.iv_forms.specs.declared.fact.Sel.{Sel}
use Rattle.iv_forms.specs.declared.fact.Fact.{Fact}
use Rattle.iv_forms.specs.declared.fact.Att.{Att}
use Rattle.iv_forms.specs.declared.method.Section.{Section}
use Rattle.iv_forms.specs.declared.method.Subject.{Subject}
use Rattle.iv_forms.specs.declared.method.Cut.{Cut}
use Rattle.iv_forms.specs.declared.method.Pattern.{Pattern}
use Rattle.iv_forms.specs.declared.method.MethodText.{MethodText}
use Rattle.iv_forms.specs.declared.method.Arg.{Arg}
use Rattle.iv_forms.specs.declared.method.Case.{Case}
use Rattle.iv_recogniser.specs.declared.class.Class.{Class}
use Rattle.iv_recogniser.specs.Table.{forms}
use Rattle.iv_recogniser.specs.Spell.{Spells, word, part}
use Rattle.iv_forms.proofs.Splits.{by_call, by_ident, by_long, by_subject}
use Rattle.iv_forms.proofs.Splits.{S}
use Rattle.iv_forms.proofs.BackFact.{att_s, fact_s, more_atts_s, more_facts_s, more_sels_s, opt_atts_s, sel_s, sels_s}
use Rattle.iv_forms.proofs.BackProp.{opt_for_s}

module _ (law : Law) where
  -- methods
  pub opt_nat_s : {v : ℕ} {s : List Symbol} {ts us : List Lexeme} → IsOptNat v ts us → S s us → S (Goes P.OptNat ∷ s) ts
  opt_nat_s no_number d = part ([]) (inl refl) d
  opt_nat_s (a_number n) d = part (NUMERAL ∷ []) (inr (inl refl)) (word n d)

  pub cut_s : {v : Cut} {s : List Symbol} {ts us : List Lexeme} → IsCut v ts us → S s us → S (Goes P.Cut ∷ s) ts
  cut_s no_cut d = part ([]) (inl refl) d
  cut_s (a_cut a w n b) d = part (OPEN ∷ CUT ∷ Goes P.OptNat ∷ CLOSE ∷ []) (inr (inl refl)) (word a (word w (opt_nat_s n (word b d))))

  pub pat_ident_s : {v : Cut} {s : List Symbol} {ts us : List Lexeme} → IsCut v ts us → S s us → S (Goes P.PatIdent ∷ s) ts
  pat_ident_s no_cut d = part ([]) (inl refl) d
  pat_ident_s (a_cut a w n b) d = part (OPEN ∷ CUT ∷ Goes P.OptNat ∷ CLOSE ∷ []) (inr (inr (inl refl))) (word a (word w (opt_nat_s n (word b d))))

  pub pattern_s : {v : Pattern} {s : List Symbol} {ts us : List Lexeme} → IsPattern v ts us → S s us → S (Goes P.Pat ∷ s) ts
  pattern_s (named_pattern x c t k) d = part (IDENTIFIER ∷ Goes P.PatIdent ∷ []) (inl refl) (word x (part (COLON ∷ TERM ∷ Goes P.Cut ∷ []) (inr (inl refl)) (word c (word t (cut_s k d)))))
  pattern_s (pattern_ {t = t} h k) d = by_ident law t h (λ i. part (IDENTIFIER ∷ Goes P.PatIdent ∷ []) (inl refl) (word i (pat_ident_s k d))) (λ n. part (NO_IDENT ∷ Goes P.Cut ∷ []) (inr (inl refl)) (word n (cut_s k d)))

  pub more_patterns_s : {v : List Pattern} {s : List Symbol} {ts us : List Lexeme} → IsMorePatterns v ts us → S s us → S (Goes P.MorePats ∷ s) ts
  more_patterns_s no_more_patterns d = part ([]) (inl refl) d
  more_patterns_s (more_patterns a p ps) d = part (AND ∷ Goes P.Pat ∷ Goes P.MorePats ∷ []) (inr (inl refl)) (word a (pattern_s p (more_patterns_s ps d)))

  pub sections_wider : {s : List Symbol} {cs : List Class} → Spells forms (Goes P.Sections ∷ s) cs → Spells forms (Goes P.SectionIdent ∷ s) cs
  sections_wider (part r (inl e) d) = part r (inl e) d
  sections_wider (part r (inr (inl e)) d) = part r (inr (inr (inr (inr (inl e))))) d
  sections_wider (part r (inr (inr (inl e))) d) = part r (inr (inr (inr (inr (inr (inl e)))))) d
  sections_wider (part r (inr (inr (inr (inl e)))) d) = part r (inr (inr (inr (inr (inr (inr (inl e))))))) d
  sections_wider (part r (inr (inr (inr (inr e)))) d) = elim e [ ]

  pub section_ident : {ss : List Sel} {xs : List Att} {s : List Symbol} {ts us vs : List Lexeme} → IsSels ss ts us → IsOptAtts xs us vs → S (Goes P.Sections ∷ s) vs → S (Goes P.SectionIdent ∷ s) ts
  section_ident no_sels no_atts d = sections_wider d
  section_ident no_sels (some_atts (atts a x xs b)) d = part (LEFT ∷ Goes P.Att ∷ Goes P.MoreAtts ∷ RIGHT ∷ Goes P.Sections ∷ []) (inr (inr (inr (inl refl)))) (word a (att_s law x (more_atts_s law xs (word b d))))
  section_ident (sels a s ss b) xs d = part (OPEN ∷ Goes P.Sel ∷ Goes P.MoreSels ∷ CLOSE ∷ Goes P.OptAtts ∷ Goes P.Sections ∷ []) (inr (inr (inl refl))) (word a (sel_s law s (more_sels_s law ss (word b (opt_atts_s law xs d)))))

  pub section_facts_s : {fs : List Fact} {s : List Symbol} {ts us : List Lexeme} → IsMoreFacts fs ts us → S (Goes P.Sections ∷ s) us → S (Goes P.Sections ∷ s) ts
  section_facts_s no_more_facts d = d
  section_facts_s (and_facts a f fs) d = part (AND ∷ Goes P.Fact ∷ Goes P.Sections ∷ []) (inr (inl refl)) (word a (fact_s law f (section_facts_s fs d)))
  section_facts_s (more_facts (fact {n = t} h ss xs) fs) d = by_long law t h (λ i. part (IDENTIFIER ∷ Goes P.SectionIdent ∷ []) (inr (inr (inl refl))) (word i (section_ident ss xs (section_facts_s fs d)))) (λ l. part (LONG ∷ Goes P.Sels ∷ Goes P.OptAtts ∷ Goes P.Sections ∷ []) (inr (inr (inr (inl refl)))) (word l (sels_s law ss (opt_atts_s law xs (section_facts_s fs d)))))

  pub sections_s : {v : List Section} {s : List Symbol} {ts us : List Lexeme} → IsSections v ts us → S s us → S (Goes P.Sections ∷ s) ts
  sections_s no_sections d = part ([]) (inl refl) d
  sections_s (sections (section x c (facts f fs)) xs) d = part (IDENTIFIER ∷ Goes P.SectionIdent ∷ []) (inr (inr (inl refl))) (word x (part (COLON ∷ Goes P.Fact ∷ Goes P.Sections ∷ []) (inr (inl refl)) (word c (fact_s law f (section_facts_s fs (sections_s xs d))))))

  pub section_args_s : {v : List Section} {s : List Symbol} {ts us : List Lexeme} → IsSections v ts us → S s us → S (Goes P.CallArgs ∷ s) ts
  section_args_s no_sections d = part ([]) (inl refl) d
  section_args_s (sections (section x c (facts f fs)) xs) d = part (IDENTIFIER ∷ Goes P.CallIdent ∷ []) (inr (inl refl)) (word x (part (COLON ∷ Goes P.Fact ∷ Goes P.Sections ∷ []) (inr (inl refl)) (word c (fact_s law f (section_facts_s fs (sections_s xs d))))))

  pub subject_wider : {s : List Symbol} {cs : List Class} → Spells forms (Goes P.MoreFacts ∷ s) cs → Spells forms (Goes P.SubjectName ∷ s) cs
  subject_wider (part r (inl e) d) = part r (inl e) d
  subject_wider (part r (inr (inl e)) d) = part r (inr (inr (inr (inl e)))) d
  subject_wider (part r (inr (inr (inl e))) d) = part r (inr (inr (inr (inr (inl e))))) d
  subject_wider (part r (inr (inr (inr e))) d) = elim e [ ]

  pub subject_name_s : {ss : List Sel} {xs : List Att} {fs : List Fact} {s : List Symbol} {ts us vs ws : List Lexeme} → IsSels ss ts us → IsOptAtts xs us vs → IsMoreFacts fs vs ws → S s ws → S (Goes P.SubjectName ∷ s) ts
  subject_name_s no_sels no_atts fs d = subject_wider (more_facts_s law fs d)
  subject_name_s no_sels (some_atts (atts a x xs b)) fs d = part (LEFT ∷ Goes P.Att ∷ Goes P.MoreAtts ∷ RIGHT ∷ Goes P.MoreFacts ∷ []) (inr (inr (inl refl))) (word a (att_s law x (more_atts_s law xs (word b (more_facts_s law fs d)))))
  subject_name_s (sels a s ss b) xs fs d = part (OPEN ∷ Goes P.Sel ∷ Goes P.MoreSels ∷ CLOSE ∷ Goes P.OptAtts ∷ Goes P.MoreFacts ∷ []) (inr (inl refl)) (word a (sel_s law s (more_sels_s law ss (word b (opt_atts_s law xs (more_facts_s law fs d))))))

  pub subject_s : {v : Subject} {s : List Symbol} {ts us : List Lexeme} → IsSubject v ts us → S (Goes P.Cases ∷ s) us → S (Goes P.MatchRest ∷ s) ts
  subject_s (premises w) d = part (PREMISES ∷ Goes P.SubjectName ∷ Goes P.Cases ∷ []) (inr (inr (inr (inr (inl refl))))) (word w (part ([]) (inl refl) d))
  subject_s (conclusion w) d = part (CONCLUSION ∷ Goes P.SubjectName ∷ Goes P.Cases ∷ []) (inr (inr (inr (inr (inr (inl refl)))))) (word w (part ([]) (inl refl) d))
  subject_s (subject_term a t b) d = part (OPEN ∷ TERM ∷ CLOSE ∷ Goes P.Cases ∷ []) (inr (inr (inr (inr (inr (inr (inl refl))))))) (word a (word t (word b d)))
  subject_s (subject_facts {n = t} h ss xs fs y) d = by_subject law t h (λ p. part (PREMISES ∷ Goes P.SubjectName ∷ Goes P.Cases ∷ []) (inr (inr (inr (inr (inl refl))))) (word p (subject_name_s ss xs fs d))) (λ c. part (CONCLUSION ∷ Goes P.SubjectName ∷ Goes P.Cases ∷ []) (inr (inr (inr (inr (inr (inl refl)))))) (word c (subject_name_s ss xs fs d))) (λ n. part (SUBJECT_NAME ∷ Goes P.Sels ∷ Goes P.OptAtts ∷ Goes P.MoreFacts ∷ Goes P.Cases ∷ []) (inr (inr (inr (inr (inr (inr (inr (inl refl)))))))) (word n (sels_s law ss (opt_atts_s law xs (more_facts_s law fs d)))))

  pub suffix_s : {m v : MethodText} {s : List Symbol} {ts us : List Lexeme} → IsSuffix m v ts us → S s us → S (Goes P.Suffix ∷ s) ts
  suffix_s no_suffix d = part ([]) (inl refl) d
  suffix_s (try q) d = part (QUESTION ∷ []) (inr (inl refl)) (word q d)
  suffix_s (repeat q) d = part (PLUS ∷ []) (inr (inr (inl refl))) (word q d)
  suffix_s (first a n b) d = part (LEFT ∷ Goes P.OptNat ∷ RIGHT ∷ []) (inr (inr (inr (inl refl)))) (word a (opt_nat_s n (word b d)))

  pub rule_suffix_s : {m v : MethodText} {s : List Symbol} {ts us : List Lexeme} → IsSuffix m v ts us → S s us → S (Goes P.RuleRest ∷ s) ts
  rule_suffix_s no_suffix d = part ([]) (inl refl) d
  rule_suffix_s (try q) d = part (QUESTION ∷ []) (inr (inl refl)) (word q d)
  rule_suffix_s (repeat q) d = part (PLUS ∷ []) (inr (inr (inl refl))) (word q d)
  rule_suffix_s (first a n b) d = part (LEFT ∷ Goes P.OptNat ∷ RIGHT ∷ []) (inr (inr (inr (inl refl)))) (word a (opt_nat_s n (word b d)))

  pub call_suffix_s : {m v : MethodText} {s : List Symbol} {ts us : List Lexeme} → IsSuffix m v ts us → S s us → S (Goes P.CallRest ∷ s) ts
  call_suffix_s no_suffix d = part ([]) (inl refl) d
  call_suffix_s (try q) d = part (QUESTION ∷ []) (inr (inl refl)) (word q d)
  call_suffix_s (repeat q) d = part (PLUS ∷ []) (inr (inr (inl refl))) (word q d)
  call_suffix_s (first a n b) d = part (LEFT ∷ Goes P.OptNat ∷ RIGHT ∷ []) (inr (inr (inr (inl refl)))) (word a (opt_nat_s n (word b d)))

  pub match_suffix_s : {m v : MethodText} {s : List Symbol} {ts us : List Lexeme} → IsSuffix m v ts us → S s us → S (Goes P.MatchRest ∷ s) ts
  match_suffix_s no_suffix d = part ([]) (inl refl) d
  match_suffix_s (try q) d = part (QUESTION ∷ []) (inr (inl refl)) (word q d)
  match_suffix_s (repeat q) d = part (PLUS ∷ []) (inr (inr (inl refl))) (word q d)
  match_suffix_s (first a n b) d = part (LEFT ∷ Goes P.OptNat ∷ RIGHT ∷ []) (inr (inr (inr (inl refl)))) (word a (opt_nat_s n (word b d)))

  pub args_wider : {s : List Symbol} {cs : List Class} → Spells forms (Goes P.CallArgs ∷ s) cs → Spells forms (Goes P.CallIdent ∷ s) cs
  args_wider (part r (inl e) d) = part r (inl e) d
  args_wider (part r (inr (inl e)) d) = part r (inr (inr (inl e))) d
  args_wider (part r (inr (inr (inl e))) d) = part r (inr (inr (inr (inl e)))) d
  args_wider (part r (inr (inr (inr (inl e)))) d) = part r (inr (inr (inr (inr (inl e))))) d
  args_wider (part r (inr (inr (inr (inr e)))) d) = elim e [ ]

  mutual
    pub item_s : {v : MethodText} {s : List Symbol} {ts us : List Lexeme} → IsItem v ts us → S s us → S (Goes P.Item ∷ s) ts
    item_s (item_method (method (core_name {n = t} h) x)) d = by_call law t h (λ w. part (RULE ∷ Goes P.RuleRest ∷ []) (inl refl) (word w (rule_suffix_s x d))) (λ w. part (MATCH ∷ Goes P.MatchRest ∷ []) (inr (inl refl)) (word w (match_suffix_s x d))) (λ n. part (CALL_NAME ∷ Goes P.CallRest ∷ []) (inr (inr (inl refl))) (word n (call_suffix_s x d)))
    item_s (item_method (method (core_dash e) x)) d = part (MINUS ∷ Goes P.Suffix ∷ []) (inr (inr (inr (inl refl)))) (word e (suffix_s x d))
    item_s (item_method (method (core_paren a (alt (semi (seq i p) q) r) b) x)) d = part (OPEN ∷ Goes P.Item ∷ Goes P.MoreSeq ∷ Goes P.MoreSemi ∷ Goes P.MoreAlt ∷ CLOSE ∷ Goes P.Suffix ∷ []) (inr (inr (inr (inr (inl refl))))) (word a (item_s i (more_seq_s p (more_semi_s q (more_alt_s r (word b (suffix_s x d)))))))
    item_s (item_rule w (facts (fact n ss xs) fs)) d = part (RULE ∷ Goes P.RuleRest ∷ []) (inl refl) (word w (part (NAME ∷ Goes P.Sels ∷ Goes P.OptAtts ∷ Goes P.MoreFacts ∷ []) (inr (inr (inr (inr (inl refl))))) (word n (sels_s law ss (opt_atts_s law xs (more_facts_s law fs d))))))
    item_s (item_call n (arg_term {t = t} h) es xs) d = by_ident law t h (λ i. part (CALL_NAME ∷ Goes P.CallRest ∷ []) (inr (inr (inl refl))) (word n (part (IDENTIFIER ∷ Goes P.CallIdent ∷ []) (inr (inr (inr (inr (inl refl))))) (word i (args_wider (args_s es (section_args_s xs d))))))) (λ m. part (CALL_NAME ∷ Goes P.CallRest ∷ []) (inr (inr (inl refl))) (word n (part (NO_IDENT ∷ Goes P.CallArgs ∷ []) (inr (inr (inr (inr (inr (inl refl)))))) (word m (args_s es (section_args_s xs d))))))
    item_s (item_call n (arg_method a (alt (semi (seq i p) q) r) b) es xs) d = part (CALL_NAME ∷ Goes P.CallRest ∷ []) (inr (inr (inl refl))) (word n (part (OPEN ∷ Goes P.Item ∷ Goes P.MoreSeq ∷ Goes P.MoreSemi ∷ Goes P.MoreAlt ∷ CLOSE ∷ Goes P.CallArgs ∷ []) (inr (inr (inr (inr (inr (inr (inl refl))))))) (word a (item_s i (more_seq_s p (more_semi_s q (more_alt_s r (word b (args_s es (section_args_s xs d))))))))))
    item_s (item_sections n (section x c (facts f fs)) xs) d = part (CALL_NAME ∷ Goes P.CallRest ∷ []) (inr (inr (inl refl))) (word n (part (IDENTIFIER ∷ Goes P.CallIdent ∷ []) (inr (inr (inr (inr (inl refl))))) (word x (part (COLON ∷ Goes P.Fact ∷ Goes P.Sections ∷ []) (inr (inl refl)) (word c (fact_s law f (section_facts_s fs (sections_s xs d))))))))
    item_s (item_match w s cs) d = part (MATCH ∷ Goes P.MatchRest ∷ []) (inr (inl refl)) (word w (subject_s s (cases_s cs d)))

    pub args_s : {es : List Arg} {s : List Symbol} {ts us : List Lexeme} → IsArgs es ts us → S (Goes P.CallArgs ∷ s) us → S (Goes P.CallArgs ∷ s) ts
    args_s no_args d = d
    args_s (args (arg_term {t = t} h) es) d = by_ident law t h (λ i. part (IDENTIFIER ∷ Goes P.CallIdent ∷ []) (inr (inl refl)) (word i (args_wider (args_s es d)))) (λ n. part (NO_IDENT ∷ Goes P.CallArgs ∷ []) (inr (inr (inl refl))) (word n (args_s es d)))
    args_s (args (arg_method a (alt (semi (seq i p) q) r) b) es) d = part (OPEN ∷ Goes P.Item ∷ Goes P.MoreSeq ∷ Goes P.MoreSemi ∷ Goes P.MoreAlt ∷ CLOSE ∷ Goes P.CallArgs ∷ []) (inr (inr (inr (inl refl)))) (word a (item_s i (more_seq_s p (more_semi_s q (more_alt_s r (word b (args_s es d)))))))

    pub more_seq_s : {m v : MethodText} {s : List Symbol} {ts us : List Lexeme} → IsMoreSeq m v ts us → S s us → S (Goes P.MoreSeq ∷ s) ts
    more_seq_s no_comma d = part ([]) (inl refl) d
    more_seq_s (comma c i r) d = part (COMMA ∷ Goes P.Item ∷ Goes P.MoreSeq ∷ []) (inr (inl refl)) (word c (item_s i (more_seq_s r d)))

    pub more_semi_s : {m v : MethodText} {s : List Symbol} {ts us : List Lexeme} → IsMoreSemi m v ts us → S s us → S (Goes P.MoreSemi ∷ s) ts
    more_semi_s no_semicolon d = part ([]) (inl refl) d
    more_semi_s (semicolon c (seq i p) r) d = part (SEMICOLON ∷ Goes P.Item ∷ Goes P.MoreSeq ∷ Goes P.MoreSemi ∷ []) (inr (inl refl)) (word c (item_s i (more_seq_s p (more_semi_s r d))))

    pub more_alt_s : {m v : MethodText} {s : List Symbol} {ts us : List Lexeme} → IsMoreAlt m v ts us → S s us → S (Goes P.MoreAlt ∷ s) ts
    more_alt_s no_bar d = part ([]) (inl refl) d
    more_alt_s (bar c (semi (seq i p) q) r) d = part (BAR ∷ Goes P.Item ∷ Goes P.MoreSeq ∷ Goes P.MoreSemi ∷ Goes P.MoreAlt ∷ []) (inr (inl refl)) (word c (item_s i (more_seq_s p (more_semi_s q (more_alt_s r d)))))

    pub cases_s : {v : List Case} {s : List Symbol} {ts us : List Lexeme} → IsCases v ts us → S s us → S (Goes P.Cases ∷ s) ts
    cases_s (cases w (case_is p ps gs a i (alt (semi (seq it x) y) z) o) cs) d = part (IN ∷ Goes P.Pat ∷ Goes P.MorePats ∷ Goes P.OptFor ∷ ARROW ∷ INTO ∷ Goes P.Item ∷ Goes P.MoreSeq ∷ Goes P.MoreSemi ∷ Goes P.MoreAlt ∷ OUT_OF ∷ Goes P.MoreCases ∷ []) (inl refl) (word w (pattern_s p (more_patterns_s ps (opt_for_s law gs (word a (word i (item_s it (more_seq_s x (more_semi_s y (more_alt_s z (word o (more_cases_s cs d))))))))))))

    pub more_cases_s : {v : List Case} {s : List Symbol} {ts us : List Lexeme} → IsMoreCases v ts us → S s us → S (Goes P.MoreCases ∷ s) ts
    more_cases_s no_more_cases d = part ([]) (inl refl) d
    more_cases_s (more_cases w (case_is p ps gs a i (alt (semi (seq it x) y) z) o) cs) d = part (CASE_BAR ∷ Goes P.Pat ∷ Goes P.MorePats ∷ Goes P.OptFor ∷ ARROW ∷ INTO ∷ Goes P.Item ∷ Goes P.MoreSeq ∷ Goes P.MoreSemi ∷ Goes P.MoreAlt ∷ OUT_OF ∷ Goes P.MoreCases ∷ []) (inr (inl refl)) (word w (pattern_s p (more_patterns_s ps (opt_for_s law gs (word a (word i (item_s it (more_seq_s x (more_semi_s y (more_alt_s z (word o (more_cases_s cs d))))))))))))

  pub method_s : {v : MethodText} {s : List Symbol} {ts us : List Lexeme} → IsMethod v ts us → S s us → S (Goes P.Method ∷ s) ts
  method_s (method (core_name n) x) d = part (NAME ∷ Goes P.Suffix ∷ []) (inl refl) (word n (suffix_s x d))
  method_s (method (core_dash e) x) d = part (MINUS ∷ Goes P.Suffix ∷ []) (inr (inl refl)) (word e (suffix_s x d))
  method_s (method (core_paren a (alt (semi (seq i p) q) r) b) x) d = part (OPEN ∷ Goes P.Item ∷ Goes P.MoreSeq ∷ Goes P.MoreSemi ∷ Goes P.MoreAlt ∷ CLOSE ∷ Goes P.Suffix ∷ []) (inr (inr (inl refl))) (word a (item_s i (more_seq_s p (more_semi_s q (more_alt_s r (word b (suffix_s x d)))))))

  pub opt_method_s : {v : Option MethodText} {s : List Symbol} {ts us : List Lexeme} → IsOptMethod v ts us → S s us → S (Goes P.OptMethod ∷ s) ts
  opt_method_s no_method d = part ([]) (inl refl) d
  opt_method_s (a_method (method (core_name n) x)) d = part (NAME ∷ Goes P.Suffix ∷ []) (inr (inl refl)) (word n (suffix_s x d))
  opt_method_s (a_method (method (core_dash e) x)) d = part (MINUS ∷ Goes P.Suffix ∷ []) (inr (inr (inl refl))) (word e (suffix_s x d))
  opt_method_s (a_method (method (core_paren a (alt (semi (seq i p) q) r) b) x)) d = part (OPEN ∷ Goes P.Item ∷ Goes P.MoreSeq ∷ Goes P.MoreSemi ∷ Goes P.MoreAlt ∷ CLOSE ∷ Goes P.Suffix ∷ []) (inr (inr (inr (inl refl)))) (word a (item_s i (more_seq_s p (more_semi_s q (more_alt_s r (word b (suffix_s x d)))))))
