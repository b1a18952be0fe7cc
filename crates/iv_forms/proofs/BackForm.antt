-- From the forms back to the table. Written by tools/outer_back.py from tools/back.txt.
use Rattle.std.proofs.Common.{true, List, [], ◌∷◌, refl, inl, inr}
use Rattle.iv_recogniser.specs.declared.part.Part.TheVariants as P
use Rattle.iv_recogniser.specs.declared.part.Symbol.{Symbol}
use Rattle.iv_recogniser.specs.declared.part.Symbol.TheVariants.{Goes}
use Rattle.iv_recogniser.specs.Table.{ALSO, APPLY, ASSUME, AXIOMATIZATION, BACK, BEGIN, BY, CHAPTER, COLONS, CONSTS, COROLLARY, DECLARE, DEFER, DEFINE, DONE, DOT, DOTS, END, EQUAL, FINALLY, FIX, FROM, HAVE, HENCE, IDENTIFIER, IMPORTS, JUDGMENT, LEFT_BRACE, LEMMA, LEMMAS, LET, METHOD, MOREOVER, NAME, NAMED_THEOREMS, NEXT, NOTE, NUMERAL, OBTAIN, OOPS, PARAGRAPH, PREFER, PRESUME, PROOF, PROPOSITION, PROSE, QED, QUOTED, RIGHT_BRACE, SECTION, SHOW, SUBPARAGRAPH, SUBSECTION, SUBSUBSECTION, TERM, THEN, THEOREM, THEORY, THUS, TXT, TYPE, TYPEDECL, ULTIMATELY, USING, WHERE, WITH}
use Rattle.iv_forms.specs.declared.lexeme.Lexeme.{Lexeme}
use Rattle.iv_forms.specs.CommandForm.{IsForm, also, apply, assume, axiomatization, back, by, chapter, consts, corollary, declare, defer, define, done_, dot, dots, end_, equation, finally, fix, from, have, hence, judgment, left_brace, lemma_, lemmas, let_, method_, moreover, named_theorems, next_, note, obtain, oops, paragraph, prefer, presume, proof, proposition, prose, qed, right_brace, section_, show, subparagraph, subsection, subsubsection, then_, theorem_, theory, thus, txt, typedecl, ultimately, using_, with_}
use Rattle.iv_forms.proofs.Sorts.{Law}
use Rattle.iv_forms.specs.declared.command.Body.{Body}
use Rattle.iv_recogniser.specs.Spell.{word, part}
use Rattle.iv_forms.proofs.Splits.{S}
use Rattle.iv_forms.proofs.BackFact.{facts_s, names_s, opt_atts_s}
use Rattle.iv_forms.proofs.BackProp.{claim_s, of_type_s, opt_for_s, props_s, vars_s}
use Rattle.iv_forms.proofs.BackMethod.{method_s, opt_method_s}
use Rattle.iv_forms.proofs.BackCommand.{axiomatized_s, const_s, judgment_form_s, labelled_term_s, more_consts_s, more_equations_s, notes_s, obtained_s, parts_s, some_nat_s, statement_s, tvars_s}

module _ (law : Law) where
  -- the commands
  pub form_s : {v : Body} {s : List Symbol} {ts us : List Lexeme} → IsForm v ts us → S s us → S (Goes P.Command ∷ s) ts
  form_s (theory w n i m ms b) d = part (THEORY ∷ NAME ∷ IMPORTS ∷ NAME ∷ Goes P.Names ∷ BEGIN ∷ []) (inl refl) (word w (word n (word i (word m (names_s law ms (word b d))))))
  form_s (end_ h) d = part (END ∷ []) (inr (inl refl)) (word h d)
  form_s (chapter h i) d = part (CHAPTER ∷ QUOTED ∷ []) (inr (inr (inl refl))) (word h (word i d))
  form_s (section_ h i) d = part (SECTION ∷ QUOTED ∷ []) (inr (inr (inr (inl refl)))) (word h (word i d))
  form_s (subsection h i) d = part (SUBSECTION ∷ QUOTED ∷ []) (inr (inr (inr (inr (inl refl))))) (word h (word i d))
  form_s (subsubsection h i) d = part (SUBSUBSECTION ∷ QUOTED ∷ []) (inr (inr (inr (inr (inr (inl refl)))))) (word h (word i d))
  form_s (paragraph h i) d = part (PARAGRAPH ∷ QUOTED ∷ []) (inr (inr (inr (inr (inr (inr (inl refl))))))) (word h (word i d))
  form_s (subparagraph h i) d = part (SUBPARAGRAPH ∷ QUOTED ∷ []) (inr (inr (inr (inr (inr (inr (inr (inl refl)))))))) (word h (word i d))
  form_s (prose h i) d = part (PROSE ∷ QUOTED ∷ []) (inr (inr (inr (inr (inr (inr (inr (inr (inl refl))))))))) (word h (word i d))
  form_s (txt h i) d = part (TXT ∷ QUOTED ∷ []) (inr (inr (inr (inr (inr (inr (inr (inr (inr (inl refl)))))))))) (word h (word i d))
  form_s (typedecl w xs x) d = part (TYPEDECL ∷ Goes P.Typed ∷ []) (inr (inr (inr (inr (inr (inr (inr (inr (inr (inr (inl refl))))))))))) (word w (tvars_s law xs (word x d)))
  form_s (consts h i j) d = part (CONSTS ∷ Goes P.Const ∷ Goes P.MoreConsts ∷ []) (inr (inr (inr (inr (inr (inr (inr (inr (inr (inr (inr (inl refl)))))))))))) (word h (const_s law i (more_consts_s law j d)))
  form_s (judgment h i j k l) d = part (JUDGMENT ∷ IDENTIFIER ∷ COLONS ∷ TYPE ∷ Goes P.JudgmentForm ∷ []) (inr (inr (inr (inr (inr (inr (inr (inr (inr (inr (inr (inr (inl refl))))))))))))) (word h (word i (word j (word k (judgment_form_s law l d)))))
  form_s (axiomatization w cs xs) d = part (AXIOMATIZATION ∷ Goes P.Axiomatized ∷ []) (inr (inr (inr (inr (inr (inr (inr (inr (inr (inr (inr (inr (inr (inl refl)))))))))))))) (word w (axiomatized_s law cs xs d))
  form_s (lemmas h i j k l) d = part (LEMMAS ∷ NAME ∷ Goes P.OptAtts ∷ EQUAL ∷ Goes P.Facts ∷ []) (inr (inr (inr (inr (inr (inr (inr (inr (inr (inr (inr (inr (inr (inr (inl refl))))))))))))))) (word h (word i (opt_atts_s law j (word k (facts_s law l d)))))
  form_s (declare h i) d = part (DECLARE ∷ Goes P.Facts ∷ []) (inr (inr (inr (inr (inr (inr (inr (inr (inr (inr (inr (inr (inr (inr (inr (inl refl)))))))))))))))) (word h (facts_s law i d))
  form_s (named_theorems h i) d = part (NAMED_THEOREMS ∷ IDENTIFIER ∷ []) (inr (inr (inr (inr (inr (inr (inr (inr (inr (inr (inr (inr (inr (inr (inr (inr (inl refl))))))))))))))))) (word h (word i d))
  form_s (method_ w x gs p e m) d = part (METHOD ∷ IDENTIFIER ∷ Goes P.OptFor ∷ Goes P.Parts ∷ []) (inr (inr (inr (inr (inr (inr (inr (inr (inr (inr (inr (inr (inr (inr (inr (inr (inr (inl refl)))))))))))))))))) (word w (word x (opt_for_s law gs (parts_s law true true true p tt tt tt (word e (method_s law m d))))))
  form_s (lemma_ h i) d = part (LEMMA ∷ Goes P.Statement ∷ []) (inr (inr (inr (inr (inr (inr (inr (inr (inr (inr (inr (inr (inr (inr (inr (inr (inr (inr (inl refl))))))))))))))))))) (word h (statement_s law i d))
  form_s (theorem_ h i) d = part (THEOREM ∷ Goes P.Statement ∷ []) (inr (inr (inr (inr (inr (inr (inr (inr (inr (inr (inr (inr (inr (inr (inr (inr (inr (inr (inr (inl refl)))))))))))))))))))) (word h (statement_s law i d))
  form_s (corollary h i) d = part (COROLLARY ∷ Goes P.Statement ∷ []) (inr (inr (inr (inr (inr (inr (inr (inr (inr (inr (inr (inr (inr (inr (inr (inr (inr (inr (inr (inr (inl refl))))))))))))))))))))) (word h (statement_s law i d))
  form_s (proposition h i) d = part (PROPOSITION ∷ Goes P.Statement ∷ []) (inr (inr (inr (inr (inr (inr (inr (inr (inr (inr (inr (inr (inr (inr (inr (inr (inr (inr (inr (inr (inr (inl refl)))))))))))))))))))))) (word h (statement_s law i d))
  form_s (fix h i) d = part (FIX ∷ Goes P.Vars ∷ []) (inr (inr (inr (inr (inr (inr (inr (inr (inr (inr (inr (inr (inr (inr (inr (inr (inr (inr (inr (inr (inr (inr (inl refl))))))))))))))))))))))) (word h (vars_s law i d))
  form_s (assume h i) d = part (ASSUME ∷ Goes P.Props ∷ []) (inr (inr (inr (inr (inr (inr (inr (inr (inr (inr (inr (inr (inr (inr (inr (inr (inr (inr (inr (inr (inr (inr (inr (inl refl)))))))))))))))))))))))) (word h (props_s law i d))
  form_s (presume h i) d = part (PRESUME ∷ Goes P.Props ∷ []) (inr (inr (inr (inr (inr (inr (inr (inr (inr (inr (inr (inr (inr (inr (inr (inr (inr (inr (inr (inr (inr (inr (inr (inr (inl refl))))))))))))))))))))))))) (word h (props_s law i d))
  form_s (define {b = b} w x t h l k) d = part (DEFINE ∷ IDENTIFIER ∷ Goes P.OfType ∷ WHERE ∷ Goes P.LabelledTerm ∷ []) (inr (inr (inr (inr (inr (inr (inr (inr (inr (inr (inr (inr (inr (inr (inr (inr (inr (inr (inr (inr (inr (inr (inr (inr (inr (inl refl)))))))))))))))))))))))))) (word w (word x (of_type_s law t (word h (labelled_term_s law b l k d)))))
  form_s (note w gs) d = part (NOTE ∷ NAME ∷ Goes P.NoteName ∷ []) (inr (inr (inr (inr (inr (inr (inr (inr (inr (inr (inr (inr (inr (inr (inr (inr (inr (inr (inr (inr (inr (inr (inr (inr (inr (inr (inl refl))))))))))))))))))))))))))) (word w (notes_s law gs d))
  form_s (let_ w (equation p e t) xs) d = part (LET ∷ TERM ∷ EQUAL ∷ TERM ∷ Goes P.MoreEquations ∷ []) (inr (inr (inr (inr (inr (inr (inr (inr (inr (inr (inr (inr (inr (inr (inr (inr (inr (inr (inr (inr (inr (inr (inr (inr (inr (inr (inr (inl refl)))))))))))))))))))))))))))) (word w (word p (word e (word t (more_equations_s law xs d)))))
  form_s (left_brace h) d = part (LEFT_BRACE ∷ []) (inr (inr (inr (inr (inr (inr (inr (inr (inr (inr (inr (inr (inr (inr (inr (inr (inr (inr (inr (inr (inr (inr (inr (inr (inr (inr (inr (inr (inl refl))))))))))))))))))))))))))))) (word h d)
  form_s (right_brace h) d = part (RIGHT_BRACE ∷ []) (inr (inr (inr (inr (inr (inr (inr (inr (inr (inr (inr (inr (inr (inr (inr (inr (inr (inr (inr (inr (inr (inr (inr (inr (inr (inr (inr (inr (inr (inl refl)))))))))))))))))))))))))))))) (word h d)
  form_s (next_ h) d = part (NEXT ∷ []) (inr (inr (inr (inr (inr (inr (inr (inr (inr (inr (inr (inr (inr (inr (inr (inr (inr (inr (inr (inr (inr (inr (inr (inr (inr (inr (inr (inr (inr (inr (inl refl))))))))))))))))))))))))))))))) (word h d)
  form_s (then_ h) d = part (THEN ∷ []) (inr (inr (inr (inr (inr (inr (inr (inr (inr (inr (inr (inr (inr (inr (inr (inr (inr (inr (inr (inr (inr (inr (inr (inr (inr (inr (inr (inr (inr (inr (inr (inl refl)))))))))))))))))))))))))))))))) (word h d)
  form_s (from h i) d = part (FROM ∷ Goes P.Facts ∷ []) (inr (inr (inr (inr (inr (inr (inr (inr (inr (inr (inr (inr (inr (inr (inr (inr (inr (inr (inr (inr (inr (inr (inr (inr (inr (inr (inr (inr (inr (inr (inr (inr (inl refl))))))))))))))))))))))))))))))))) (word h (facts_s law i d))
  form_s (with_ h i) d = part (WITH ∷ Goes P.Facts ∷ []) (inr (inr (inr (inr (inr (inr (inr (inr (inr (inr (inr (inr (inr (inr (inr (inr (inr (inr (inr (inr (inr (inr (inr (inr (inr (inr (inr (inr (inr (inr (inr (inr (inr (inl refl)))))))))))))))))))))))))))))))))) (word h (facts_s law i d))
  form_s (have h i) d = part (HAVE ∷ Goes P.Claim ∷ []) (inr (inr (inr (inr (inr (inr (inr (inr (inr (inr (inr (inr (inr (inr (inr (inr (inr (inr (inr (inr (inr (inr (inr (inr (inr (inr (inr (inr (inr (inr (inr (inr (inr (inr (inl refl))))))))))))))))))))))))))))))))))) (word h (claim_s law i d))
  form_s (show h i) d = part (SHOW ∷ Goes P.Claim ∷ []) (inr (inr (inr (inr (inr (inr (inr (inr (inr (inr (inr (inr (inr (inr (inr (inr (inr (inr (inr (inr (inr (inr (inr (inr (inr (inr (inr (inr (inr (inr (inr (inr (inr (inr (inr (inl refl)))))))))))))))))))))))))))))))))))) (word h (claim_s law i d))
  form_s (hence h i) d = part (HENCE ∷ Goes P.Claim ∷ []) (inr (inr (inr (inr (inr (inr (inr (inr (inr (inr (inr (inr (inr (inr (inr (inr (inr (inr (inr (inr (inr (inr (inr (inr (inr (inr (inr (inr (inr (inr (inr (inr (inr (inr (inr (inr (inl refl))))))))))))))))))))))))))))))))))))) (word h (claim_s law i d))
  form_s (thus h i) d = part (THUS ∷ Goes P.Claim ∷ []) (inr (inr (inr (inr (inr (inr (inr (inr (inr (inr (inr (inr (inr (inr (inr (inr (inr (inr (inr (inr (inr (inr (inr (inr (inr (inr (inr (inr (inr (inr (inr (inr (inr (inr (inr (inr (inr (inl refl)))))))))))))))))))))))))))))))))))))) (word h (claim_s law i d))
  form_s (obtain h i) d = part (OBTAIN ∷ Goes P.Obtained ∷ []) (inr (inr (inr (inr (inr (inr (inr (inr (inr (inr (inr (inr (inr (inr (inr (inr (inr (inr (inr (inr (inr (inr (inr (inr (inr (inr (inr (inr (inr (inr (inr (inr (inr (inr (inr (inr (inr (inr (inl refl))))))))))))))))))))))))))))))))))))))) (word h (obtained_s law i d))
  form_s (also h) d = part (ALSO ∷ []) (inr (inr (inr (inr (inr (inr (inr (inr (inr (inr (inr (inr (inr (inr (inr (inr (inr (inr (inr (inr (inr (inr (inr (inr (inr (inr (inr (inr (inr (inr (inr (inr (inr (inr (inr (inr (inr (inr (inr (inl refl)))))))))))))))))))))))))))))))))))))))) (word h d)
  form_s (moreover h) d = part (MOREOVER ∷ []) (inr (inr (inr (inr (inr (inr (inr (inr (inr (inr (inr (inr (inr (inr (inr (inr (inr (inr (inr (inr (inr (inr (inr (inr (inr (inr (inr (inr (inr (inr (inr (inr (inr (inr (inr (inr (inr (inr (inr (inr (inl refl))))))))))))))))))))))))))))))))))))))))) (word h d)
  form_s (finally h) d = part (FINALLY ∷ []) (inr (inr (inr (inr (inr (inr (inr (inr (inr (inr (inr (inr (inr (inr (inr (inr (inr (inr (inr (inr (inr (inr (inr (inr (inr (inr (inr (inr (inr (inr (inr (inr (inr (inr (inr (inr (inr (inr (inr (inr (inr (inl refl)))))))))))))))))))))))))))))))))))))))))) (word h d)
  form_s (ultimately h) d = part (ULTIMATELY ∷ []) (inr (inr (inr (inr (inr (inr (inr (inr (inr (inr (inr (inr (inr (inr (inr (inr (inr (inr (inr (inr (inr (inr (inr (inr (inr (inr (inr (inr (inr (inr (inr (inr (inr (inr (inr (inr (inr (inr (inr (inr (inr (inr (inl refl))))))))))))))))))))))))))))))))))))))))))) (word h d)
  form_s (apply h i) d = part (APPLY ∷ Goes P.Method ∷ []) (inr (inr (inr (inr (inr (inr (inr (inr (inr (inr (inr (inr (inr (inr (inr (inr (inr (inr (inr (inr (inr (inr (inr (inr (inr (inr (inr (inr (inr (inr (inr (inr (inr (inr (inr (inr (inr (inr (inr (inr (inr (inr (inr (inl refl)))))))))))))))))))))))))))))))))))))))))))) (word h (method_s law i d))
  form_s (using_ h i) d = part (USING ∷ Goes P.Facts ∷ []) (inr (inr (inr (inr (inr (inr (inr (inr (inr (inr (inr (inr (inr (inr (inr (inr (inr (inr (inr (inr (inr (inr (inr (inr (inr (inr (inr (inr (inr (inr (inr (inr (inr (inr (inr (inr (inr (inr (inr (inr (inr (inr (inr (inr (inl refl))))))))))))))))))))))))))))))))))))))))))))) (word h (facts_s law i d))
  form_s (defer h i) d = part (DEFER ∷ Goes P.OptNat ∷ []) (inr (inr (inr (inr (inr (inr (inr (inr (inr (inr (inr (inr (inr (inr (inr (inr (inr (inr (inr (inr (inr (inr (inr (inr (inr (inr (inr (inr (inr (inr (inr (inr (inr (inr (inr (inr (inr (inr (inr (inr (inr (inr (inr (inr (inr (inl refl)))))))))))))))))))))))))))))))))))))))))))))) (word h (some_nat_s law i d))
  form_s (prefer h i) d = part (PREFER ∷ NUMERAL ∷ []) (inr (inr (inr (inr (inr (inr (inr (inr (inr (inr (inr (inr (inr (inr (inr (inr (inr (inr (inr (inr (inr (inr (inr (inr (inr (inr (inr (inr (inr (inr (inr (inr (inr (inr (inr (inr (inr (inr (inr (inr (inr (inr (inr (inr (inr (inr (inl refl))))))))))))))))))))))))))))))))))))))))))))))) (word h (word i d))
  form_s (back h) d = part (BACK ∷ []) (inr (inr (inr (inr (inr (inr (inr (inr (inr (inr (inr (inr (inr (inr (inr (inr (inr (inr (inr (inr (inr (inr (inr (inr (inr (inr (inr (inr (inr (inr (inr (inr (inr (inr (inr (inr (inr (inr (inr (inr (inr (inr (inr (inr (inr (inr (inr (inl refl)))))))))))))))))))))))))))))))))))))))))))))))) (word h d)
  form_s (proof h i) d = part (PROOF ∷ Goes P.OptMethod ∷ []) (inr (inr (inr (inr (inr (inr (inr (inr (inr (inr (inr (inr (inr (inr (inr (inr (inr (inr (inr (inr (inr (inr (inr (inr (inr (inr (inr (inr (inr (inr (inr (inr (inr (inr (inr (inr (inr (inr (inr (inr (inr (inr (inr (inr (inr (inr (inr (inr (inl refl))))))))))))))))))))))))))))))))))))))))))))))))) (word h (opt_method_s law i d))
  form_s (qed h i) d = part (QED ∷ Goes P.OptMethod ∷ []) (inr (inr (inr (inr (inr (inr (inr (inr (inr (inr (inr (inr (inr (inr (inr (inr (inr (inr (inr (inr (inr (inr (inr (inr (inr (inr (inr (inr (inr (inr (inr (inr (inr (inr (inr (inr (inr (inr (inr (inr (inr (inr (inr (inr (inr (inr (inr (inr (inr (inl refl)))))))))))))))))))))))))))))))))))))))))))))))))) (word h (opt_method_s law i d))
  form_s (by h i j) d = part (BY ∷ Goes P.Method ∷ Goes P.OptMethod ∷ []) (inr (inr (inr (inr (inr (inr (inr (inr (inr (inr (inr (inr (inr (inr (inr (inr (inr (inr (inr (inr (inr (inr (inr (inr (inr (inr (inr (inr (inr (inr (inr (inr (inr (inr (inr (inr (inr (inr (inr (inr (inr (inr (inr (inr (inr (inr (inr (inr (inr (inr (inl refl))))))))))))))))))))))))))))))))))))))))))))))))))) (word h (method_s law i (opt_method_s law j d)))
  form_s (dot h) d = part (DOT ∷ []) (inr (inr (inr (inr (inr (inr (inr (inr (inr (inr (inr (inr (inr (inr (inr (inr (inr (inr (inr (inr (inr (inr (inr (inr (inr (inr (inr (inr (inr (inr (inr (inr (inr (inr (inr (inr (inr (inr (inr (inr (inr (inr (inr (inr (inr (inr (inr (inr (inr (inr (inr (inl refl)))))))))))))))))))))))))))))))))))))))))))))))))))) (word h d)
  form_s (dots h) d = part (DOTS ∷ []) (inr (inr (inr (inr (inr (inr (inr (inr (inr (inr (inr (inr (inr (inr (inr (inr (inr (inr (inr (inr (inr (inr (inr (inr (inr (inr (inr (inr (inr (inr (inr (inr (inr (inr (inr (inr (inr (inr (inr (inr (inr (inr (inr (inr (inr (inr (inr (inr (inr (inr (inr (inr (inl refl))))))))))))))))))))))))))))))))))))))))))))))))))))) (word h d)
  form_s (done_ h) d = part (DONE ∷ []) (inr (inr (inr (inr (inr (inr (inr (inr (inr (inr (inr (inr (inr (inr (inr (inr (inr (inr (inr (inr (inr (inr (inr (inr (inr (inr (inr (inr (inr (inr (inr (inr (inr (inr (inr (inr (inr (inr (inr (inr (inr (inr (inr (inr (inr (inr (inr (inr (inr (inr (inr (inr (inr (inl refl)))))))))))))))))))))))))))))))))))))))))))))))))))))) (word h d)
  form_s (oops h) d = part (OOPS ∷ []) (inr (inr (inr (inr (inr (inr (inr (inr (inr (inr (inr (inr (inr (inr (inr (inr (inr (inr (inr (inr (inr (inr (inr (inr (inr (inr (inr (inr (inr (inr (inr (inr (inr (inr (inr (inr (inr (inr (inr (inr (inr (inr (inr (inr (inr (inr (inr (inr (inr (inr (inr (inr (inr (inr (inl refl))))))))))))))))))))))))))))))))))))))))))))))))))))))) (word h d)
