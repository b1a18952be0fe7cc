-- Written by tools/outer_means.py from tools/meanings.txt.
-- What a row of a part means, the part means.
use Rattle.std.proofs.Common.{List}
use Rattle.iv_recogniser.specs.declared.part.Part.TheVariants as P
use Rattle.iv_recogniser.specs.declared.part.Part.{Part}
use Rattle.iv_recogniser.specs.declared.part.Symbol.{Symbol}
use Rattle.iv_forms.specs.declared.lexeme.Lexeme.{Lexeme}
use Rattle.iv_forms.proofs.Sorts.{Law}
use Rattle.iv_forms.proofs.Means.{Means, MeansPart}
use Rattle.iv_recogniser.specs.Table.{forms}
use Rattle.iv_recogniser.specs.Spell.{IsIn}
use Rattle.iv_forms.proofs.RowsFact.{part_fact, part_facts, part_more_facts, part_sels, part_sel, part_sel_to, part_more_sels, part_opt_atts, part_more_atts, part_att, part_opt_mark, part_of_facts, part_fact_places, part_then_fact, part_of_terms, part_term_places, part_more_wheres}
use Rattle.iv_forms.proofs.RowsProp.{part_prop, part_pattern, part_terms, part_claim, part_claim_name, part_props, part_props_name, part_more_props, part_labelled_term, part_term_name, part_names, part_idents, part_of_type, part_vars, part_more_vars, part_opt_for, part_const, part_fix, part_fixity}
use Rattle.iv_forms.proofs.RowsMethod.{part_method, part_opt_method, part_suffix, part_opt_nat, part_more_alt, part_more_semi, part_more_seq, part_item, part_rule_rest, part_call_rest, part_call_args, part_call_ident, part_sections, part_section_ident, part_match_rest, part_subject_name, part_cases, part_more_cases, part_pat, part_pat_ident, part_cut, part_more_pats}
use Rattle.iv_forms.proofs.RowsCommand.{part_typed, part_more_tvars, part_more_consts, part_judgment_form, part_axiomatized, part_axiom_consts, part_axiom, part_more_axioms, part_parts, part_uses_declares, part_methods_declares, part_methods_uses, part_methods_alone, part_uses_alone, part_declares_alone, part_body, part_statement, part_statement_name, part_stated, part_opt_assumes, part_more_equations, part_note_name, part_note_equal, part_note_more, part_obtained, part_obtained_one, part_obtained_more}
use Rattle.iv_forms.proofs.RowsWord.{part_command}

module _ (law : Law) where
  pub closed : (p : Part) (r : List Symbol) → IsIn r (forms p) → {ts us : List Lexeme} → Means r ts us → MeansPart p ts us
  closed P.Fact r i m = part_fact law r i m
  closed P.Facts r i m = part_facts law r i m
  closed P.MoreFacts r i m = part_more_facts law r i m
  closed P.Sels r i m = part_sels law r i m
  closed P.Sel r i m = part_sel law r i m
  closed P.SelTo r i m = part_sel_to law r i m
  closed P.MoreSels r i m = part_more_sels law r i m
  closed P.OptAtts r i m = part_opt_atts law r i m
  closed P.MoreAtts r i m = part_more_atts law r i m
  closed P.Att r i m = part_att law r i m
  closed P.OptMark r i m = part_opt_mark law r i m
  closed P.OfFacts r i m = part_of_facts law r i m
  closed P.FactPlaces r i m = part_fact_places law r i m
  closed P.ThenFact r i m = part_then_fact law r i m
  closed P.OfTerms r i m = part_of_terms law r i m
  closed P.TermPlaces r i m = part_term_places law r i m
  closed P.MoreWheres r i m = part_more_wheres law r i m
  closed P.Prop r i m = part_prop law r i m
  closed P.Pattern r i m = part_pattern law r i m
  closed P.Terms r i m = part_terms law r i m
  closed P.Claim r i m = part_claim law r i m
  closed P.ClaimName r i m = part_claim_name law r i m
  closed P.Props r i m = part_props law r i m
  closed P.PropsName r i m = part_props_name law r i m
  closed P.MoreProps r i m = part_more_props law r i m
  closed P.LabelledTerm r i m = part_labelled_term law r i m
  closed P.TermName r i m = part_term_name law r i m
  closed P.Names r i m = part_names law r i m
  closed P.Idents r i m = part_idents law r i m
  closed P.OfType r i m = part_of_type law r i m
  closed P.Vars r i m = part_vars law r i m
  closed P.MoreVars r i m = part_more_vars law r i m
  closed P.OptFor r i m = part_opt_for law r i m
  closed P.Const r i m = part_const law r i m
  closed P.Fix r i m = part_fix law r i m
  closed P.Fixity r i m = part_fixity law r i m
  closed P.Method r i m = part_method law r i m
  closed P.OptMethod r i m = part_opt_method law r i m
  closed P.Suffix r i m = part_suffix law r i m
  closed P.OptNat r i m = part_opt_nat law r i m
  closed P.MoreAlt r i m = part_more_alt law r i m
  closed P.MoreSemi r i m = part_more_semi law r i m
  closed P.MoreSeq r i m = part_more_seq law r i m
  closed P.Item r i m = part_item law r i m
  closed P.RuleRest r i m = part_rule_rest law r i m
  closed P.CallRest r i m = part_call_rest law r i m
  closed P.CallArgs r i m = part_call_args law r i m
  closed P.CallIdent r i m = part_call_ident law r i m
  closed P.Sections r i m = part_sections law r i m
  closed P.SectionIdent r i m = part_section_ident law r i m
  closed P.MatchRest r i m = part_match_rest law r i m
  closed P.SubjectName r i m = part_subject_name law r i m
  closed P.Cases r i m = part_cases law r i m
  closed P.MoreCases r i m = part_more_cases law r i m
  closed P.Pat r i m = part_pat law r i m
  closed P.PatIdent r i m = part_pat_ident law r i m
  closed P.Cut r i m = part_cut law r i m
  closed P.MorePats r i m = part_more_pats law r i m
  closed P.Typed r i m = part_typed law r i m
  closed P.MoreTvars r i m = part_more_tvars law r i m
  closed P.MoreConsts r i m = part_more_consts law r i m
  closed P.JudgmentForm r i m = part_judgment_form law r i m
  closed P.Axiomatized r i m = part_axiomatized law r i m
  closed P.AxiomConsts r i m = part_axiom_consts law r i m
  closed P.Axiom r i m = part_axiom law r i m
  closed P.MoreAxioms r i m = part_more_axioms law r i m
  closed P.Parts r i m = part_parts law r i m
  closed P.UsesDeclares r i m = part_uses_declares law r i m
  closed P.MethodsDeclares r i m = part_methods_declares law r i m
  closed P.MethodsUses r i m = part_methods_uses law r i m
  closed P.MethodsAlone r i m = part_methods_alone law r i m
  closed P.UsesAlone r i m = part_uses_alone law r i m
  closed P.DeclaresAlone r i m = part_declares_alone law r i m
  closed P.Body r i m = part_body law r i m
  closed P.Statement r i m = part_statement law r i m
  closed P.StatementName r i m = part_statement_name law r i m
  closed P.Stated r i m = part_stated law r i m
  closed P.OptAssumes r i m = part_opt_assumes law r i m
  closed P.MoreEquations r i m = part_more_equations law r i m
  closed P.NoteName r i m = part_note_name law r i m
  closed P.NoteEqual r i m = part_note_equal law r i m
  closed P.NoteMore r i m = part_note_more law r i m
  closed P.Obtained r i m = part_obtained law r i m
  closed P.ObtainedOne r i m = part_obtained_one law r i m
  closed P.ObtainedMore r i m = part_obtained_more law r i m
  closed P.Command r i m = part_command law r i m
