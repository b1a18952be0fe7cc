-- From the forms back to the table. Written by tools/outer_back.py from tools/back.txt.
use Rattle.std.proofs.Common.{Bool, true, false, ℕ, List, [], ◌∷◌, refl, inl, inr}
use Rattle.iv_recogniser.specs.declared.class.Sort.TheVariants as sort
use Rattle.iv_recogniser.specs.declared.part.Part.TheVariants as P
use Rattle.iv_recogniser.specs.declared.part.Part.{Part}
use Rattle.iv_recogniser.specs.declared.part.Symbol.{Symbol}
use Rattle.iv_recogniser.specs.declared.part.Symbol.TheVariants.{Goes}
use Rattle.iv_recogniser.specs.Table.{AND, ASSUMES, BINDER, BINDING, CLOSE, COLON, COLONS, COMMA, DECLARES, EQUAL, FIXES, IDENTIFIER, INFIX, INFIXL, INFIXR, IS, JUDGING, LEFT, LONG, LOW, METHODS, NAME, NO_IDENT, NO_NAME, NUMERAL, OPEN, PLAIN, PREFIX, PRIORITY, RIGHT, SHOWS, TERM, TVAR, TYPE, USES, WHERE}
use Rattle.iv_forms.specs.declared.lexeme.Lexeme.{Lexeme}
use Rattle.iv_forms.specs.Lexeme.{AreAll, Is, no_more, one_more}
use Rattle.iv_forms.specs.FactForm.{IsMoreFacts, IsOptAtts, IsSels, and_facts, atts, fact, facts, more_facts, no_atts, no_more_facts, no_sels, sels, some_atts}
use Rattle.iv_forms.specs.PropForm.{IsGroup, IsLabel, IsMoreGroups, IsMoreProps, IsMoreVars, IsOfType, IsOptLabel, IsPatterns, a_label, bare_label, group, more_groups, more_props, more_vars, named_label, no_label, no_more_groups, no_more_props, no_more_vars, no_patterns, no_type, of_type, patterns, prop, props, var_group, vars}
use Rattle.iv_forms.specs.CommandForm.{IsAndConsts, IsAssumes, IsAxiom, IsAxiomConsts, IsAxioms, IsConst, IsFix, IsFixes, IsFixity, IsJudgmentForm, IsMoreAxioms, IsMoreConsts, IsMoreEquations, IsMoreNotes, IsMoreTvars, IsNotes, IsObtained, IsParts, IsSomeNat, IsStatement, IsTvars, and_consts, assumes, axiom_consts, axiom_is, axioms, bare_notes, binder, const, declares_part, equation, fix_is, fixes, infix_is, infixl_is, infixr_is, judgment_form, long, methods_part, more_axioms, more_consts, more_equations, more_notes, more_tvars, named_notes, no_and_consts, no_assumes, no_axiom_consts, no_axioms, no_fix, no_fixes, no_judgment_form, no_more_axioms, no_more_consts, no_more_equations, no_more_notes, no_more_tvars, no_parts, no_tvars, none_given, note_group, obtained_names, obtained_props, one_given, one_tvar, plain, prefix, short, tvars, uses_part}
use Rattle.iv_forms.proofs.Sorts.{Law}
use Rattle.std.specs.Prelude.{Option}
use Rattle.iv_lex.specs.declared.cutting.Token.{Token}
use Rattle.iv_forms.specs.declared.fact.Sel.{Sel}
use Rattle.iv_forms.specs.declared.fact.Fact.{Fact}
use Rattle.iv_forms.specs.declared.fact.Att.{Att}
use Rattle.iv_forms.specs.declared.prop.Label.{Label}
use Rattle.iv_forms.specs.declared.prop.Prop.{Prop}
use Rattle.iv_forms.specs.declared.prop.Group.{Group}
use Rattle.iv_forms.specs.declared.prop.VarGroup.{VarGroup}
use Rattle.iv_forms.specs.declared.command.Fixity.{Fixity}
use Rattle.iv_forms.specs.declared.command.Constant.{Constant}
use Rattle.iv_forms.specs.declared.command.Axiom.{Axiom}
use Rattle.iv_forms.specs.declared.command.Statement.{Statement}
use Rattle.iv_forms.specs.declared.command.Parts.{Parts}
use Rattle.iv_forms.specs.declared.command.NoteGroup.{NoteGroup}
use Rattle.iv_forms.specs.declared.command.Equation.{Equation}
use Rattle.iv_forms.specs.declared.command.Obtained.{Obtained}
use Rattle.iv_recogniser.specs.declared.class.Class.{Class}
use Rattle.iv_recogniser.specs.Table.{forms}
use Rattle.iv_recogniser.specs.Spell.{Spells, word, part}
use Rattle.iv_forms.proofs.Splits.{by_ident, by_long, by_name, by_obtained}
use Rattle.iv_forms.proofs.Splits.{S}
use Rattle.iv_forms.proofs.Means.{Lacks}
use Rattle.iv_forms.proofs.BackFact.{att_s, idents_s, more_atts_s, more_sels_s, opt_atts_s, sel_s, sels_s, terms_s}
use Rattle.iv_forms.proofs.BackProp.{more_groups_s, more_props_s, more_vars_s, patterns_s, prop_s, props_name_s, props_s, vars_s}

module _ (law : Law) where
  -- commands
  pub some_nat_s : {v : Option ℕ} {s : List Symbol} {ts us : List Lexeme} → IsSomeNat v ts us → S s us → S (Goes P.OptNat ∷ s) ts
  some_nat_s none_given d = part ([]) (inl refl) d
  some_nat_s (one_given n) d = part (NUMERAL ∷ []) (inr (inl refl)) (word n d)

  pub fixity_s : {v : Fixity} {s : List Symbol} {ts us : List Lexeme} → IsFixity v ts us → S s us → S (Goes P.Fixity ∷ s) ts
  fixity_s (plain s) d = part (PLAIN ∷ []) (inl refl) (word s d)
  fixity_s (prefix s a n b m) d = part (PREFIX ∷ LEFT ∷ PRIORITY ∷ RIGHT ∷ PRIORITY ∷ []) (inr (inl refl)) (word s (word a (word n (word b (word m d)))))
  fixity_s (infix_is w s n) d = part (INFIX ∷ PLAIN ∷ LOW ∷ []) (inr (inr (inl refl))) (word w (word s (word n d)))
  fixity_s (infixl_is w s n) d = part (INFIXL ∷ PLAIN ∷ LOW ∷ []) (inr (inr (inr (inl refl)))) (word w (word s (word n d)))
  fixity_s (infixr_is w s n) d = part (INFIXR ∷ PLAIN ∷ LOW ∷ []) (inr (inr (inr (inr (inl refl))))) (word w (word s (word n d)))
  fixity_s (binder w s n) d = part (BINDER ∷ BINDING ∷ PRIORITY ∷ []) (inr (inr (inr (inr (inr (inl refl)))))) (word w (word s (word n d)))

  pub fix_s : {v : Fixity} {s : List Symbol} {ts us : List Lexeme} → IsFix v ts us → S s us → S (Goes P.Fix ∷ s) ts
  fix_s no_fix d = part ([]) (inl refl) d
  fix_s (fix_is a f b) d = part (OPEN ∷ Goes P.Fixity ∷ CLOSE ∷ []) (inr (inl refl)) (word a (fixity_s f (word b d)))

  pub const_s : {v : Constant} {s : List Symbol} {ts us : List Lexeme} → IsConst v ts us → S s us → S (Goes P.Const ∷ s) ts
  const_s (const x c t f) d = part (IDENTIFIER ∷ COLONS ∷ TYPE ∷ Goes P.Fix ∷ []) (inl refl) (word x (word c (word t (fix_s f d))))

  pub more_consts_s : {v : List Constant} {s : List Symbol} {ts us : List Lexeme} → IsMoreConsts v ts us → S s us → S (Goes P.MoreConsts ∷ s) ts
  more_consts_s no_more_consts d = part ([]) (inl refl) d
  more_consts_s (more_consts (const x c t f) xs) d = part (IDENTIFIER ∷ COLONS ∷ TYPE ∷ Goes P.Fix ∷ Goes P.MoreConsts ∷ []) (inr (inl refl)) (word x (word c (word t (fix_s f (more_consts_s xs d)))))

  pub axiom_s : {v : Axiom} {s : List Symbol} {ts us : List Lexeme} → IsAxiom v ts us → S s us → S (Goes P.Axiom ∷ s) ts
  axiom_s (axiom_is n xs c t) d = part (NAME ∷ Goes P.OptAtts ∷ COLON ∷ TERM ∷ []) (inl refl) (word n (opt_atts_s law xs (word c (word t d))))

  pub more_axioms_s : {v : List Axiom} {s : List Symbol} {ts us : List Lexeme} → IsMoreAxioms v ts us → S s us → S (Goes P.MoreAxioms ∷ s) ts
  more_axioms_s no_more_axioms d = part ([]) (inl refl) d
  more_axioms_s (more_axioms a x xs) d = part (AND ∷ Goes P.Axiom ∷ Goes P.MoreAxioms ∷ []) (inr (inl refl)) (word a (axiom_s x (more_axioms_s xs d)))

  pub and_axioms_s : {v : List Axiom} {s : List Symbol} {ts us : List Lexeme} → IsAxioms v ts us → S s us → S (Goes P.AxiomConsts ∷ s) ts
  and_axioms_s no_axioms d = part ([]) (inl refl) d
  and_axioms_s (axioms w x xs) d = part (WHERE ∷ Goes P.Axiom ∷ Goes P.MoreAxioms ∷ []) (inr (inr (inl refl))) (word w (axiom_s x (more_axioms_s xs d)))

  pub axioms_s : {v : List Axiom} {s : List Symbol} {ts us : List Lexeme} → IsAxioms v ts us → S s us → S (Goes P.Axiomatized ∷ s) ts
  axioms_s no_axioms d = part ([]) (inl refl) d
  axioms_s (axioms w x xs) d = part (WHERE ∷ Goes P.Axiom ∷ Goes P.MoreAxioms ∷ []) (inr (inr (inl refl))) (word w (axiom_s x (more_axioms_s xs d)))

  pub and_consts_s : {xs : List Constant} {s : List Symbol} {ts us : List Lexeme} → IsAndConsts xs ts us → S (Goes P.AxiomConsts ∷ s) us → S (Goes P.AxiomConsts ∷ s) ts
  and_consts_s no_and_consts d = d
  and_consts_s (and_consts a (const x c t f) xs) d = part (AND ∷ IDENTIFIER ∷ COLONS ∷ TYPE ∷ Goes P.Fix ∷ Goes P.AxiomConsts ∷ []) (inr (inl refl)) (word a (word x (word c (word t (fix_s f (and_consts_s xs d))))))

  pub axiomatized_s : {cs : List Constant} {xs : List Axiom} {s : List Symbol} {ts us vs : List Lexeme} → IsAxiomConsts cs ts us → IsAxioms xs us vs → S s vs → S (Goes P.Axiomatized ∷ s) ts
  axiomatized_s no_axiom_consts xs d = axioms_s xs d
  axiomatized_s (axiom_consts (const x c t f) cs) xs d = part (IDENTIFIER ∷ COLONS ∷ TYPE ∷ Goes P.Fix ∷ Goes P.AxiomConsts ∷ []) (inr (inl refl)) (word x (word c (word t (fix_s f (and_consts_s cs (and_axioms_s xs d))))))

  pub more_tvars_s : {v : List Token} {s : List Symbol} {ts us : List Lexeme} → IsMoreTvars v ts us → S s us → S (Goes P.MoreTvars ∷ s) ts
  more_tvars_s no_more_tvars d = part ([]) (inl refl) d
  more_tvars_s (more_tvars c v xs) d = part (COMMA ∷ TVAR ∷ Goes P.MoreTvars ∷ []) (inr (inl refl)) (word c (word v (more_tvars_s xs d)))

  pub tvars_s : {xs : List Token} {s : List Symbol} {ts us : List Lexeme} → IsTvars xs ts us → S (IDENTIFIER ∷ s) us → S (Goes P.Typed ∷ s) ts
  tvars_s no_tvars d = part (IDENTIFIER ∷ []) (inl refl) d
  tvars_s (one_tvar v) d = part (TVAR ∷ IDENTIFIER ∷ []) (inr (inl refl)) (word v d)
  tvars_s (tvars a v xs b) d = part (OPEN ∷ TVAR ∷ Goes P.MoreTvars ∷ CLOSE ∷ IDENTIFIER ∷ []) (inr (inr (inl refl))) (word a (word v (more_tvars_s xs (word b d))))

  pub judgment_form_s : {s : List Symbol} {ts us : List Lexeme} → IsJudgmentForm ts us → S s us → S (Goes P.JudgmentForm ∷ s) ts
  judgment_form_s no_judgment_form d = part ([]) (inl refl) d
  judgment_form_s (judgment_form a s n b) d = part (OPEN ∷ JUDGING ∷ PRIORITY ∷ CLOSE ∷ []) (inr (inl refl)) (word a (word s (word n (word b d))))

  abbrev pub part_of : Bool → Bool → Bool → Part
  part_of true true true = P.Parts
  part_of false true true = P.UsesDeclares
  part_of true false true = P.MethodsDeclares
  part_of true true false = P.MethodsUses
  part_of true false false = P.MethodsAlone
  part_of false true false = P.UsesAlone
  part_of false false true = P.DeclaresAlone
  part_of false false false = P.Body

  pub parts_s : (a b c : Bool) {p : Parts} {s : List Symbol} {ts us : List Lexeme} → IsParts p ts us → Lacks a p.methods → Lacks b p.uses → Lacks c p.declares → S (EQUAL ∷ Goes P.Method ∷ s) us → S (Goes (part_of a b c) ∷ s) ts
  parts_s true true true no_parts x y z d = part (EQUAL ∷ Goes P.Method ∷ []) (inr (inr (inr (inl refl)))) d
  parts_s false true true no_parts x y z d = part (EQUAL ∷ Goes P.Method ∷ []) (inr (inr (inl refl))) d
  parts_s true false true no_parts x y z d = part (EQUAL ∷ Goes P.Method ∷ []) (inr (inr (inl refl))) d
  parts_s true true false no_parts x y z d = part (EQUAL ∷ Goes P.Method ∷ []) (inr (inr (inl refl))) d
  parts_s true false false no_parts x y z d = part (EQUAL ∷ Goes P.Method ∷ []) (inr (inl refl)) d
  parts_s false true false no_parts x y z d = part (EQUAL ∷ Goes P.Method ∷ []) (inr (inl refl)) d
  parts_s false false true no_parts x y z d = part (EQUAL ∷ Goes P.Method ∷ []) (inr (inl refl)) d
  parts_s false false false no_parts x y z d = part (EQUAL ∷ Goes P.Method ∷ []) (inl refl) d
  parts_s true true true (methods_part w n xs p e) x y z d = part (METHODS ∷ IDENTIFIER ∷ Goes P.Idents ∷ Goes P.UsesDeclares ∷ []) (inl refl) (word w (word n (idents_s law xs (parts_s false true true p e y z d))))
  parts_s false true true (methods_part w n xs p e) x y z d = cc
  parts_s true false true (methods_part w n xs p e) x y z d = part (METHODS ∷ IDENTIFIER ∷ Goes P.Idents ∷ Goes P.DeclaresAlone ∷ []) (inl refl) (word w (word n (idents_s law xs (parts_s false false true p e y z d))))
  parts_s true true false (methods_part w n xs p e) x y z d = part (METHODS ∷ IDENTIFIER ∷ Goes P.Idents ∷ Goes P.UsesAlone ∷ []) (inl refl) (word w (word n (idents_s law xs (parts_s false true false p e y z d))))
  parts_s true false false (methods_part w n xs p e) x y z d = part (METHODS ∷ IDENTIFIER ∷ Goes P.Idents ∷ Goes P.Body ∷ []) (inl refl) (word w (word n (idents_s law xs (parts_s false false false p e y z d))))
  parts_s false true false (methods_part w n xs p e) x y z d = cc
  parts_s false false true (methods_part w n xs p e) x y z d = cc
  parts_s false false false (methods_part w n xs p e) x y z d = cc
  parts_s true true true (uses_part w n xs p e) x y z d = part (USES ∷ IDENTIFIER ∷ Goes P.Idents ∷ Goes P.MethodsDeclares ∷ []) (inr (inl refl)) (word w (word n (idents_s law xs (parts_s true false true p x e z d))))
  parts_s false true true (uses_part w n xs p e) x y z d = part (USES ∷ IDENTIFIER ∷ Goes P.Idents ∷ Goes P.DeclaresAlone ∷ []) (inl refl) (word w (word n (idents_s law xs (parts_s false false true p x e z d))))
  parts_s true false true (uses_part w n xs p e) x y z d = cc
  parts_s true true false (uses_part w n xs p e) x y z d = part (USES ∷ IDENTIFIER ∷ Goes P.Idents ∷ Goes P.MethodsAlone ∷ []) (inr (inl refl)) (word w (word n (idents_s law xs (parts_s true false false p x e z d))))
  parts_s true false false (uses_part w n xs p e) x y z d = cc
  parts_s false true false (uses_part w n xs p e) x y z d = part (USES ∷ IDENTIFIER ∷ Goes P.Idents ∷ Goes P.Body ∷ []) (inl refl) (word w (word n (idents_s law xs (parts_s false false false p x e z d))))
  parts_s false false true (uses_part w n xs p e) x y z d = cc
  parts_s false false false (uses_part w n xs p e) x y z d = cc
  parts_s true true true (declares_part w n xs p e) x y z d = part (DECLARES ∷ IDENTIFIER ∷ Goes P.Idents ∷ Goes P.MethodsUses ∷ []) (inr (inr (inl refl))) (word w (word n (idents_s law xs (parts_s true true false p x y e d))))
  parts_s false true true (declares_part w n xs p e) x y z d = part (DECLARES ∷ IDENTIFIER ∷ Goes P.Idents ∷ Goes P.UsesAlone ∷ []) (inr (inl refl)) (word w (word n (idents_s law xs (parts_s false true false p x y e d))))
  parts_s true false true (declares_part w n xs p e) x y z d = part (DECLARES ∷ IDENTIFIER ∷ Goes P.Idents ∷ Goes P.MethodsAlone ∷ []) (inr (inl refl)) (word w (word n (idents_s law xs (parts_s true false false p x y e d))))
  parts_s true true false (declares_part w n xs p e) x y z d = cc
  parts_s true false false (declares_part w n xs p e) x y z d = cc
  parts_s false true false (declares_part w n xs p e) x y z d = cc
  parts_s false false true (declares_part w n xs p e) x y z d = part (DECLARES ∷ IDENTIFIER ∷ Goes P.Idents ∷ Goes P.Body ∷ []) (inl refl) (word w (word n (idents_s law xs (parts_s false false false p x y e d))))
  parts_s false false false (declares_part w n xs p e) x y z d = cc

  pub assumes_s : {v : List Group} {s : List Symbol} {ts us : List Lexeme} → IsAssumes v ts us → S s us → S (Goes P.OptAssumes ∷ s) ts
  assumes_s no_assumes d = part ([]) (inl refl) d
  assumes_s (assumes w gs) d = part (ASSUMES ∷ Goes P.Props ∷ []) (inr (inl refl)) (word w (props_s law gs d))

  pub stated_s : {xs : List VarGroup} {gs : List Group} {s : List Symbol} {ts us vs : List Lexeme} → IsFixes xs ts us → IsAssumes gs us vs → S (SHOWS ∷ Goes P.Prop ∷ s) vs → S (Goes P.Stated ∷ s) ts
  stated_s no_fixes no_assumes d = part (SHOWS ∷ Goes P.Prop ∷ []) (inr (inr (inr (inl refl)))) d
  stated_s no_fixes (assumes w gs) d = part (ASSUMES ∷ Goes P.Props ∷ SHOWS ∷ Goes P.Prop ∷ []) (inr (inr (inl refl))) (word w (props_s law gs d))
  stated_s (fixes w xs) gs d = part (FIXES ∷ Goes P.Vars ∷ Goes P.OptAssumes ∷ SHOWS ∷ Goes P.Prop ∷ []) (inr (inl refl)) (word w (vars_s law xs (assumes_s gs d)))

  pub unlabelled_s : {xs : List VarGroup} {gs : List Group} {s : List Symbol} {ts us vs : List Lexeme} → IsFixes xs ts us → IsAssumes gs us vs → S (SHOWS ∷ Goes P.Prop ∷ s) vs → S (Goes P.Statement ∷ s) ts
  unlabelled_s no_fixes no_assumes d = part (SHOWS ∷ Goes P.Prop ∷ []) (inr (inr (inr (inr (inr (inl refl)))))) d
  unlabelled_s no_fixes (assumes w gs) d = part (ASSUMES ∷ Goes P.Props ∷ SHOWS ∷ Goes P.Prop ∷ []) (inr (inr (inr (inr (inl refl))))) (word w (props_s law gs d))
  unlabelled_s (fixes w xs) gs d = part (FIXES ∷ Goes P.Vars ∷ Goes P.OptAssumes ∷ SHOWS ∷ Goes P.Prop ∷ []) (inr (inr (inr (inl refl)))) (word w (vars_s law xs (assumes_s gs d)))

  pub statement_label : {l : Label} {s : List Symbol} {ts us : List Lexeme} → IsLabel l ts us → S (Goes P.Stated ∷ s) us → S (Goes P.Statement ∷ s) ts
  statement_label (named_label n no_atts c) d = part (NAME ∷ Goes P.StatementName ∷ []) (inl refl) (word n (part (COLON ∷ Goes P.Stated ∷ []) (inr (inl refl)) (word c d)))
  statement_label (named_label n (some_atts (atts a x xs b)) c) d = part (NAME ∷ Goes P.StatementName ∷ []) (inl refl) (word n (part (LEFT ∷ Goes P.Att ∷ Goes P.MoreAtts ∷ RIGHT ∷ COLON ∷ Goes P.Stated ∷ []) (inr (inr (inl refl))) (word a (att_s law x (more_atts_s law xs (word b (word c d)))))))
  statement_label (bare_label (atts a x xs b) c) d = part (LEFT ∷ Goes P.Att ∷ Goes P.MoreAtts ∷ RIGHT ∷ COLON ∷ Goes P.Stated ∷ []) (inr (inl refl)) (word a (att_s law x (more_atts_s law xs (word b (word c d)))))

  pub statement_name_s : {v : List Token} {s : List Symbol} {ts us : List Lexeme} → IsPatterns v ts us → S s us → S (Goes P.StatementName ∷ s) ts
  statement_name_s no_patterns d = part ([]) (inl refl) d
  statement_name_s (patterns a w t xs b) d = part (OPEN ∷ IS ∷ TERM ∷ Goes P.Terms ∷ CLOSE ∷ []) (inr (inr (inr (inl refl)))) (word a (word w (word t (terms_s law xs (word b d)))))

  pub statement_s : {v : Statement} {s : List Symbol} {ts us : List Lexeme} → IsStatement v ts us → S s us → S (Goes P.Statement ∷ s) ts
  statement_s (short no_label (prop {t = t} h ps)) d = by_name law t h (λ n. part (NAME ∷ Goes P.StatementName ∷ []) (inl refl) (word n (statement_name_s ps d))) (λ n. part (NO_NAME ∷ Goes P.Pattern ∷ []) (inr (inr (inl refl))) (word n (patterns_s law ps d)))
  statement_s (short (a_label l) (prop t ps)) d = statement_label l (part (TERM ∷ Goes P.Pattern ∷ []) (inl refl) (word t (patterns_s law ps d)))
  statement_s (long no_label xs gs w p) d = unlabelled_s xs gs (word w (prop_s law p d))
  statement_s (long (a_label l) xs gs w p) d = statement_label l (stated_s xs gs (word w (prop_s law p d)))

  pub term_label : {l : Label} {s : List Symbol} {ts us : List Lexeme} → IsLabel l ts us → S (TERM ∷ s) us → S (Goes P.LabelledTerm ∷ s) ts
  term_label (named_label n no_atts c) d = part (NAME ∷ Goes P.TermName ∷ []) (inl refl) (word n (part (COLON ∷ TERM ∷ []) (inr (inl refl)) (word c d)))
  term_label (named_label n (some_atts (atts a x xs b)) c) d = part (NAME ∷ Goes P.TermName ∷ []) (inl refl) (word n (part (LEFT ∷ Goes P.Att ∷ Goes P.MoreAtts ∷ RIGHT ∷ COLON ∷ TERM ∷ []) (inr (inr (inl refl))) (word a (att_s law x (more_atts_s law xs (word b (word c d)))))))
  term_label (bare_label (atts a x xs b) c) d = part (LEFT ∷ Goes P.Att ∷ Goes P.MoreAtts ∷ RIGHT ∷ COLON ∷ TERM ∷ []) (inr (inl refl)) (word a (att_s law x (more_atts_s law xs (word b (word c d)))))

  pub labelled_term_s : {l : Option Label} (t : Lexeme) {s : List Symbol} {ts us : List Lexeme} → IsOptLabel l ts (t ∷ us) → Is sort.Term t → S s us → S (Goes P.LabelledTerm ∷ s) ts
  labelled_term_s t no_label h d = by_name law t h (λ n. part (NAME ∷ Goes P.TermName ∷ []) (inl refl) (word n (part ([]) (inl refl) d))) (λ n. part (NO_NAME ∷ []) (inr (inr (inl refl))) (word n d))
  labelled_term_s t (a_label l) h d = term_label l (word h d)

  pub notes_wider : {s : List Symbol} {cs : List Class} → Spells forms (Goes P.NoteMore ∷ s) cs → Spells forms (Goes P.NoteName ∷ s) cs
  notes_wider (part r (inl e) d) = part r (inl e) d
  notes_wider (part r (inr (inl e)) d) = part r (inr (inr (inr (inr (inl e))))) d
  notes_wider (part r (inr (inr (inl e))) d) = part r (inr (inr (inr (inr (inr (inl e)))))) d
  notes_wider (part r (inr (inr (inr e))) d) = elim e [ ]

  pub equals_wider : {s : List Symbol} {cs : List Class} → Spells forms (Goes P.NoteMore ∷ s) cs → Spells forms (Goes P.NoteEqual ∷ s) cs
  equals_wider (part r (inl e) d) = part r (inl e) d
  equals_wider (part r (inr (inl e)) d) = part r (inr (inr (inl e))) d
  equals_wider (part r (inr (inr (inl e))) d) = part r (inr (inr (inr (inl e)))) d
  equals_wider (part r (inr (inr (inr e))) d) = elim e [ ]

  pub note_label_s : {xs : List Att} {s : List Symbol} {ts us : List Lexeme} → IsOptAtts xs ts us → S (EQUAL ∷ NAME ∷ Goes P.Sels ∷ Goes P.OptAtts ∷ Goes P.NoteMore ∷ s) us → S (Goes P.NoteName ∷ s) ts
  note_label_s no_atts d = part (EQUAL ∷ NAME ∷ Goes P.Sels ∷ Goes P.OptAtts ∷ Goes P.NoteMore ∷ []) (inr (inl refl)) d
  note_label_s (some_atts (atts a x xs b)) d = part (LEFT ∷ Goes P.Att ∷ Goes P.MoreAtts ∷ RIGHT ∷ Goes P.NoteEqual ∷ []) (inr (inr (inl refl))) (word a (att_s law x (more_atts_s law xs (word b (part (EQUAL ∷ NAME ∷ Goes P.Sels ∷ Goes P.OptAtts ∷ Goes P.NoteMore ∷ []) (inr (inl refl)) d)))))

  pub note_fact_s : {ss : List Sel} {xs : List Att} {s : List Symbol} {ts us vs : List Lexeme} → IsSels ss ts us → IsOptAtts xs us vs → S (Goes P.NoteMore ∷ s) vs → S (Goes P.NoteName ∷ s) ts
  note_fact_s no_sels no_atts d = notes_wider d
  note_fact_s no_sels (some_atts (atts a x xs b)) d = part (LEFT ∷ Goes P.Att ∷ Goes P.MoreAtts ∷ RIGHT ∷ Goes P.NoteEqual ∷ []) (inr (inr (inl refl))) (word a (att_s law x (more_atts_s law xs (word b (equals_wider d)))))
  note_fact_s (sels a s ss b) xs d = part (OPEN ∷ Goes P.Sel ∷ Goes P.MoreSels ∷ CLOSE ∷ Goes P.OptAtts ∷ Goes P.NoteMore ∷ []) (inr (inr (inr (inl refl)))) (word a (sel_s law s (more_sels_s law ss (word b (opt_atts_s law xs d)))))

  pub note_facts_s : {fs : List Fact} {s : List Symbol} {ts us : List Lexeme} → IsMoreFacts fs ts us → S (Goes P.NoteMore ∷ s) us → S (Goes P.NoteMore ∷ s) ts
  note_facts_s no_more_facts d = d
  note_facts_s (and_facts a (fact n ss xs) fs) d = part (AND ∷ NAME ∷ Goes P.NoteName ∷ []) (inr (inl refl)) (word a (word n (note_fact_s ss xs (note_facts_s fs d))))
  note_facts_s (more_facts (fact n ss xs) fs) d = part (NAME ∷ Goes P.Sels ∷ Goes P.OptAtts ∷ Goes P.NoteMore ∷ []) (inr (inr (inl refl))) (word n (sels_s law ss (opt_atts_s law xs (note_facts_s fs d))))

  pub more_notes_s : {v : List NoteGroup} {s : List Symbol} {ts us : List Lexeme} → IsMoreNotes v ts us → S s us → S (Goes P.NoteMore ∷ s) ts
  more_notes_s no_more_notes d = part ([]) (inl refl) d
  more_notes_s (more_notes a (note_group n xs e (facts (fact m ss ys) fs)) gs) d = part (AND ∷ NAME ∷ Goes P.NoteName ∷ []) (inr (inl refl)) (word a (word n (note_label_s xs (word e (word m (sels_s law ss (opt_atts_s law ys (note_facts_s fs (more_notes_s gs d)))))))))

  pub notes_s : {gs : List NoteGroup} {s : List Symbol} {ts us : List Lexeme} → IsNotes gs ts us → S s us → S (NAME ∷ Goes P.NoteName ∷ s) ts
  notes_s (named_notes (note_group n xs e (facts (fact m ss ys) fs)) gs) d = word n (note_label_s xs (word e (word m (sels_s law ss (opt_atts_s law ys (note_facts_s fs (more_notes_s gs d)))))))
  notes_s (bare_notes (facts (fact n ss xs) fs) gs) d = word n (note_fact_s ss xs (note_facts_s fs (more_notes_s gs d)))

  pub more_equations_s : {v : List Equation} {s : List Symbol} {ts us : List Lexeme} → IsMoreEquations v ts us → S s us → S (Goes P.MoreEquations ∷ s) ts
  more_equations_s no_more_equations d = part ([]) (inl refl) d
  more_equations_s (more_equations a (equation p e t) xs) d = part (AND ∷ TERM ∷ EQUAL ∷ TERM ∷ Goes P.MoreEquations ∷ []) (inr (inl refl)) (word a (word p (word e (word t (more_equations_s xs d)))))

  pub obtained_wider : {s : List Symbol} {cs : List Class} → Spells forms (Goes P.ObtainedMore ∷ s) cs → Spells forms (Goes P.ObtainedOne ∷ s) cs
  obtained_wider (part r (inl e) d) = part r (inl e) d
  obtained_wider (part r (inr (inl e)) d) = part r (inr (inl e)) d
  obtained_wider (part r (inr (inr (inl e))) d) = part r (inr (inr (inl e))) d
  obtained_wider (part r (inr (inr (inr (inl e)))) d) = part r (inr (inr (inr (inl e)))) d
  obtained_wider (part r (inr (inr (inr (inr (inl e))))) d) = part r (inr (inr (inr (inr (inl e))))) d
  obtained_wider (part r (inr (inr (inr (inr (inr (inl e)))))) d) = part r (inr (inr (inr (inr (inr (inr (inr (inl e)))))))) d
  obtained_wider (part r (inr (inr (inr (inr (inr (inr (inl e))))))) d) = part r (inr (inr (inr (inr (inr (inr (inr (inr (inl e))))))))) d
  obtained_wider (part r (inr (inr (inr (inr (inr (inr (inr e))))))) d) = elim e [ ]

  pub obt_patterns : {pt : List Token} {s : List Symbol} {ts us : List Lexeme} → IsPatterns pt ts us → S (Goes P.ObtainedMore ∷ s) us → S (Goes P.MoreProps ∷ s) us → S (Goes P.ObtainedMore ∷ s) ts
  obt_patterns no_patterns d e = d
  obt_patterns (patterns a w t xs b) d e = part (OPEN ∷ IS ∷ TERM ∷ Goes P.Terms ∷ CLOSE ∷ Goes P.MoreProps ∷ []) (inr (inr (inr (inr (inr (inl refl)))))) (word a (word w (word t (terms_s law xs (word b e)))))

  pub obt_props : {ps : List Prop} {s : List Symbol} {ts us : List Lexeme} → IsMoreProps ps ts us → S (Goes P.ObtainedMore ∷ s) us → S (Goes P.MoreProps ∷ s) us → S (Goes P.ObtainedMore ∷ s) ts
  obt_props no_more_props d e = d
  obt_props (more_props (prop {t = t} h pt) ps) d e = by_ident law t h (λ i. part (IDENTIFIER ∷ Goes P.ObtainedMore ∷ []) (inr (inl refl)) (word i (obt_patterns pt (obt_props ps d e) (more_props_s law ps e)))) (λ n. part (NO_IDENT ∷ Goes P.Pattern ∷ Goes P.MoreProps ∷ []) (inr (inr (inr (inr (inr (inr (inl refl))))))) (word n (patterns_s law pt (more_props_s law ps e))))

  pub obt_label : {l : Label} {s : List Symbol} {ts us : List Lexeme} → IsLabel l ts us → S (TERM ∷ Goes P.Pattern ∷ Goes P.MoreProps ∷ s) us → S (Goes P.Obtained ∷ s) ts
  obt_label (named_label {n = t} h no_atts c) d = by_long law t h (λ i. part (IDENTIFIER ∷ Goes P.ObtainedOne ∷ []) (inl refl) (word i (part (COLON ∷ TERM ∷ Goes P.Pattern ∷ Goes P.MoreProps ∷ []) (inr (inr (inr (inr (inr (inl refl)))))) (word c d)))) (λ l. part (LONG ∷ Goes P.PropsName ∷ []) (inr (inl refl)) (word l (part (COLON ∷ TERM ∷ Goes P.Pattern ∷ Goes P.MoreProps ∷ []) (inr (inl refl)) (word c d))))
  obt_label (named_label {n = t} h (some_atts (atts a x xs b)) c) d = by_long law t h (λ i. part (IDENTIFIER ∷ Goes P.ObtainedOne ∷ []) (inl refl) (word i (part (LEFT ∷ Goes P.Att ∷ Goes P.MoreAtts ∷ RIGHT ∷ COLON ∷ TERM ∷ Goes P.Pattern ∷ Goes P.MoreProps ∷ []) (inr (inr (inr (inr (inr (inr (inl refl))))))) (word a (att_s law x (more_atts_s law xs (word b (word c d)))))))) (λ l. part (LONG ∷ Goes P.PropsName ∷ []) (inr (inl refl)) (word l (part (LEFT ∷ Goes P.Att ∷ Goes P.MoreAtts ∷ RIGHT ∷ COLON ∷ TERM ∷ Goes P.Pattern ∷ Goes P.MoreProps ∷ []) (inr (inr (inl refl))) (word a (att_s law x (more_atts_s law xs (word b (word c d))))))))
  obt_label (bare_label (atts a x xs b) c) d = part (LEFT ∷ Goes P.Att ∷ Goes P.MoreAtts ∷ RIGHT ∷ COLON ∷ TERM ∷ Goes P.Pattern ∷ Goes P.MoreProps ∷ []) (inr (inr (inl refl))) (word a (att_s law x (more_atts_s law xs (word b (word c d)))))

  pub obt_group : {g : Group} {s : List Symbol} {ts us : List Lexeme} → IsGroup g ts us → S (Goes P.ObtainedMore ∷ s) us → S (Goes P.MoreProps ∷ s) us → S (Goes P.Obtained ∷ s) ts
  obt_group (group no_label (prop {t = t} h pt) ps) d e = by_obtained law t h (λ i. part (IDENTIFIER ∷ Goes P.ObtainedOne ∷ []) (inl refl) (word i (obtained_wider (obt_patterns pt (obt_props ps d e) (more_props_s law ps e))))) (λ l. part (LONG ∷ Goes P.PropsName ∷ []) (inr (inl refl)) (word l (props_name_s law pt (more_props_s law ps e)))) (λ n. part (NO_NAME ∷ Goes P.Pattern ∷ Goes P.MoreProps ∷ []) (inr (inr (inr (inl refl)))) (word n (patterns_s law pt (more_props_s law ps e))))
  obt_group (group (a_label l) (prop t pt) ps) d e = obt_label l (word t (patterns_s law pt (more_props_s law ps e)))

  pub obt_groups : {v : List Group} {s : List Symbol} {ts us : List Lexeme} → IsMoreGroups v ts us → S s us → S (Goes P.ObtainedMore ∷ s) ts
  obt_groups no_more_groups d = part ([]) (inl refl) d
  obt_groups (more_groups a g gs) d = part (AND ∷ Goes P.Obtained ∷ []) (inr (inr (inr (inr (inl refl))))) (word a (obt_group g (obt_groups gs d) (more_groups_s law gs d)))

  pub obt_idents : {xs : List Token} {s : List Symbol} {ts us : List Lexeme} → AreAll sort.Identifier xs ts us → S (Goes P.ObtainedMore ∷ s) us → S (Goes P.ObtainedMore ∷ s) ts
  obt_idents no_more d = d
  obt_idents (one_more h xs) d = part (IDENTIFIER ∷ Goes P.ObtainedMore ∷ []) (inr (inl refl)) (word h (obt_idents xs d))

  pub obt_type : {t : Option Token} {s : List Symbol} {ts us : List Lexeme} → IsOfType t ts us → S (Goes P.ObtainedMore ∷ s) us → S (Goes P.MoreVars ∷ WHERE ∷ Goes P.Props ∷ s) us → S (Goes P.ObtainedMore ∷ s) ts
  obt_type no_type d e = d
  obt_type (of_type c t) d e = part (COLONS ∷ TYPE ∷ Goes P.MoreVars ∷ WHERE ∷ Goes P.Props ∷ []) (inr (inr (inl refl))) (word c (word t e))

  pub obt_vars : {gs : List VarGroup} {s : List Symbol} {ts us : List Lexeme} → IsMoreVars gs ts us → S (WHERE ∷ Goes P.Props ∷ s) us → S (Goes P.ObtainedMore ∷ s) ts
  obt_vars no_more_vars d = part (WHERE ∷ Goes P.Props ∷ []) (inr (inr (inr (inl refl)))) d
  obt_vars (more_vars a (var_group x xs t) gs) d = part (AND ∷ Goes P.Obtained ∷ []) (inr (inr (inr (inr (inl refl))))) (word a (part (IDENTIFIER ∷ Goes P.ObtainedOne ∷ []) (inl refl) (word x (obtained_wider (obt_idents xs (obt_type t (obt_vars gs d) (more_vars_s law gs d)))))))

  pub obtained_s : {v : Obtained} {s : List Symbol} {ts us : List Lexeme} → IsObtained v ts us → S s us → S (Goes P.Obtained ∷ s) ts
  obtained_s (obtained_props (props g gs)) d = obt_group g (obt_groups gs d) (more_groups_s law gs d)
  obtained_s (obtained_names (vars (var_group x xs t) gs) w ps) d = part (IDENTIFIER ∷ Goes P.ObtainedOne ∷ []) (inl refl) (word x (obtained_wider (obt_idents xs (obt_type t (obt_vars gs (word w (props_s law ps d))) (more_vars_s law gs (word w (props_s law ps d)))))))
