-- Written by tools/outer_table.py. Do not edit.
-- The table is checked, part by part.
use Rattle.std.proofs.Common.{◌≡◌, refl, true}
use Rattle.iv_recogniser.specs.declared.part.Part.{Part}
use Rattle.iv_recogniser.specs.declared.part.Part.TheVariants as part
use Rattle.iv_recogniser.specs.Table.{forms}
use Rattle.iv_recogniser.proofs.Follow.{follow, sample}
use Rattle.iv_recogniser.proofs.Checks.{is_good, is_sampled}

good_fact : is_good forms follow part.Fact ≡ true
good_fact = refl

sampled_fact : is_sampled forms sample part.Fact ≡ true
sampled_fact = refl

good_facts : is_good forms follow part.Facts ≡ true
good_facts = refl

sampled_facts : is_sampled forms sample part.Facts ≡ true
sampled_facts = refl

good_more_facts : is_good forms follow part.MoreFacts ≡ true
good_more_facts = refl

sampled_more_facts : is_sampled forms sample part.MoreFacts ≡ true
sampled_more_facts = refl

good_sels : is_good forms follow part.Sels ≡ true
good_sels = refl

sampled_sels : is_sampled forms sample part.Sels ≡ true
sampled_sels = refl

good_sel : is_good forms follow part.Sel ≡ true
good_sel = refl

sampled_sel : is_sampled forms sample part.Sel ≡ true
sampled_sel = refl

good_sel_to : is_good forms follow part.SelTo ≡ true
good_sel_to = refl

sampled_sel_to : is_sampled forms sample part.SelTo ≡ true
sampled_sel_to = refl

good_more_sels : is_good forms follow part.MoreSels ≡ true
good_more_sels = refl

sampled_more_sels : is_sampled forms sample part.MoreSels ≡ true
sampled_more_sels = refl

good_opt_atts : is_good forms follow part.OptAtts ≡ true
good_opt_atts = refl

sampled_opt_atts : is_sampled forms sample part.OptAtts ≡ true
sampled_opt_atts = refl

good_more_atts : is_good forms follow part.MoreAtts ≡ true
good_more_atts = refl

sampled_more_atts : is_sampled forms sample part.MoreAtts ≡ true
sampled_more_atts = refl

good_att : is_good forms follow part.Att ≡ true
good_att = refl

sampled_att : is_sampled forms sample part.Att ≡ true
sampled_att = refl

good_opt_mark : is_good forms follow part.OptMark ≡ true
good_opt_mark = refl

sampled_opt_mark : is_sampled forms sample part.OptMark ≡ true
sampled_opt_mark = refl

good_of_facts : is_good forms follow part.OfFacts ≡ true
good_of_facts = refl

sampled_of_facts : is_sampled forms sample part.OfFacts ≡ true
sampled_of_facts = refl

good_fact_places : is_good forms follow part.FactPlaces ≡ true
good_fact_places = refl

sampled_fact_places : is_sampled forms sample part.FactPlaces ≡ true
sampled_fact_places = refl

good_then_fact : is_good forms follow part.ThenFact ≡ true
good_then_fact = refl

sampled_then_fact : is_sampled forms sample part.ThenFact ≡ true
sampled_then_fact = refl

good_of_terms : is_good forms follow part.OfTerms ≡ true
good_of_terms = refl

sampled_of_terms : is_sampled forms sample part.OfTerms ≡ true
sampled_of_terms = refl

good_term_places : is_good forms follow part.TermPlaces ≡ true
good_term_places = refl

sampled_term_places : is_sampled forms sample part.TermPlaces ≡ true
sampled_term_places = refl

good_more_wheres : is_good forms follow part.MoreWheres ≡ true
good_more_wheres = refl

sampled_more_wheres : is_sampled forms sample part.MoreWheres ≡ true
sampled_more_wheres = refl

good_prop : is_good forms follow part.Prop ≡ true
good_prop = refl

sampled_prop : is_sampled forms sample part.Prop ≡ true
sampled_prop = refl

good_pattern : is_good forms follow part.Pattern ≡ true
good_pattern = refl

sampled_pattern : is_sampled forms sample part.Pattern ≡ true
sampled_pattern = refl

good_terms : is_good forms follow part.Terms ≡ true
good_terms = refl

sampled_terms : is_sampled forms sample part.Terms ≡ true
sampled_terms = refl

good_claim : is_good forms follow part.Claim ≡ true
good_claim = refl

sampled_claim : is_sampled forms sample part.Claim ≡ true
sampled_claim = refl

good_claim_name : is_good forms follow part.ClaimName ≡ true
good_claim_name = refl

sampled_claim_name : is_sampled forms sample part.ClaimName ≡ true
sampled_claim_name = refl

good_props : is_good forms follow part.Props ≡ true
good_props = refl

sampled_props : is_sampled forms sample part.Props ≡ true
sampled_props = refl

good_props_name : is_good forms follow part.PropsName ≡ true
good_props_name = refl

sampled_props_name : is_sampled forms sample part.PropsName ≡ true
sampled_props_name = refl

good_more_props : is_good forms follow part.MoreProps ≡ true
good_more_props = refl

sampled_more_props : is_sampled forms sample part.MoreProps ≡ true
sampled_more_props = refl

good_labelled_term : is_good forms follow part.LabelledTerm ≡ true
good_labelled_term = refl

sampled_labelled_term : is_sampled forms sample part.LabelledTerm ≡ true
sampled_labelled_term = refl

good_term_name : is_good forms follow part.TermName ≡ true
good_term_name = refl

sampled_term_name : is_sampled forms sample part.TermName ≡ true
sampled_term_name = refl

good_names : is_good forms follow part.Names ≡ true
good_names = refl

sampled_names : is_sampled forms sample part.Names ≡ true
sampled_names = refl

good_idents : is_good forms follow part.Idents ≡ true
good_idents = refl

sampled_idents : is_sampled forms sample part.Idents ≡ true
sampled_idents = refl

good_of_type : is_good forms follow part.OfType ≡ true
good_of_type = refl

sampled_of_type : is_sampled forms sample part.OfType ≡ true
sampled_of_type = refl

good_vars : is_good forms follow part.Vars ≡ true
good_vars = refl

sampled_vars : is_sampled forms sample part.Vars ≡ true
sampled_vars = refl

good_more_vars : is_good forms follow part.MoreVars ≡ true
good_more_vars = refl

sampled_more_vars : is_sampled forms sample part.MoreVars ≡ true
sampled_more_vars = refl

good_opt_for : is_good forms follow part.OptFor ≡ true
good_opt_for = refl

sampled_opt_for : is_sampled forms sample part.OptFor ≡ true
sampled_opt_for = refl

good_const : is_good forms follow part.Const ≡ true
good_const = refl

sampled_const : is_sampled forms sample part.Const ≡ true
sampled_const = refl

good_fix : is_good forms follow part.Fix ≡ true
good_fix = refl

sampled_fix : is_sampled forms sample part.Fix ≡ true
sampled_fix = refl

good_fixity : is_good forms follow part.Fixity ≡ true
good_fixity = refl

sampled_fixity : is_sampled forms sample part.Fixity ≡ true
sampled_fixity = refl

good_method : is_good forms follow part.Method ≡ true
good_method = refl

sampled_method : is_sampled forms sample part.Method ≡ true
sampled_method = refl

good_opt_method : is_good forms follow part.OptMethod ≡ true
good_opt_method = refl

sampled_opt_method : is_sampled forms sample part.OptMethod ≡ true
sampled_opt_method = refl

good_suffix : is_good forms follow part.Suffix ≡ true
good_suffix = refl

sampled_suffix : is_sampled forms sample part.Suffix ≡ true
sampled_suffix = refl

good_opt_nat : is_good forms follow part.OptNat ≡ true
good_opt_nat = refl

sampled_opt_nat : is_sampled forms sample part.OptNat ≡ true
sampled_opt_nat = refl

good_more_alt : is_good forms follow part.MoreAlt ≡ true
good_more_alt = refl

sampled_more_alt : is_sampled forms sample part.MoreAlt ≡ true
sampled_more_alt = refl

good_more_semi : is_good forms follow part.MoreSemi ≡ true
good_more_semi = refl

sampled_more_semi : is_sampled forms sample part.MoreSemi ≡ true
sampled_more_semi = refl

good_more_seq : is_good forms follow part.MoreSeq ≡ true
good_more_seq = refl

sampled_more_seq : is_sampled forms sample part.MoreSeq ≡ true
sampled_more_seq = refl

good_item : is_good forms follow part.Item ≡ true
good_item = refl

sampled_item : is_sampled forms sample part.Item ≡ true
sampled_item = refl

good_rule_rest : is_good forms follow part.RuleRest ≡ true
good_rule_rest = refl

sampled_rule_rest : is_sampled forms sample part.RuleRest ≡ true
sampled_rule_rest = refl

good_call_rest : is_good forms follow part.CallRest ≡ true
good_call_rest = refl

sampled_call_rest : is_sampled forms sample part.CallRest ≡ true
sampled_call_rest = refl

good_call_args : is_good forms follow part.CallArgs ≡ true
good_call_args = refl

sampled_call_args : is_sampled forms sample part.CallArgs ≡ true
sampled_call_args = refl

good_call_ident : is_good forms follow part.CallIdent ≡ true
good_call_ident = refl

sampled_call_ident : is_sampled forms sample part.CallIdent ≡ true
sampled_call_ident = refl

good_sections : is_good forms follow part.Sections ≡ true
good_sections = refl

sampled_sections : is_sampled forms sample part.Sections ≡ true
sampled_sections = refl

good_section_ident : is_good forms follow part.SectionIdent ≡ true
good_section_ident = refl

sampled_section_ident : is_sampled forms sample part.SectionIdent ≡ true
sampled_section_ident = refl

good_match_rest : is_good forms follow part.MatchRest ≡ true
good_match_rest = refl

sampled_match_rest : is_sampled forms sample part.MatchRest ≡ true
sampled_match_rest = refl

good_subject_name : is_good forms follow part.SubjectName ≡ true
good_subject_name = refl

sampled_subject_name : is_sampled forms sample part.SubjectName ≡ true
sampled_subject_name = refl

good_cases : is_good forms follow part.Cases ≡ true
good_cases = refl

sampled_cases : is_sampled forms sample part.Cases ≡ true
sampled_cases = refl

good_more_cases : is_good forms follow part.MoreCases ≡ true
good_more_cases = refl

sampled_more_cases : is_sampled forms sample part.MoreCases ≡ true
sampled_more_cases = refl

good_pat : is_good forms follow part.Pat ≡ true
good_pat = refl

sampled_pat : is_sampled forms sample part.Pat ≡ true
sampled_pat = refl

good_pat_ident : is_good forms follow part.PatIdent ≡ true
good_pat_ident = refl

sampled_pat_ident : is_sampled forms sample part.PatIdent ≡ true
sampled_pat_ident = refl

good_cut : is_good forms follow part.Cut ≡ true
good_cut = refl

sampled_cut : is_sampled forms sample part.Cut ≡ true
sampled_cut = refl

good_more_pats : is_good forms follow part.MorePats ≡ true
good_more_pats = refl

sampled_more_pats : is_sampled forms sample part.MorePats ≡ true
sampled_more_pats = refl

good_typed : is_good forms follow part.Typed ≡ true
good_typed = refl

sampled_typed : is_sampled forms sample part.Typed ≡ true
sampled_typed = refl

good_more_tvars : is_good forms follow part.MoreTvars ≡ true
good_more_tvars = refl

sampled_more_tvars : is_sampled forms sample part.MoreTvars ≡ true
sampled_more_tvars = refl

good_more_consts : is_good forms follow part.MoreConsts ≡ true
good_more_consts = refl

sampled_more_consts : is_sampled forms sample part.MoreConsts ≡ true
sampled_more_consts = refl

good_judgment_form : is_good forms follow part.JudgmentForm ≡ true
good_judgment_form = refl

sampled_judgment_form : is_sampled forms sample part.JudgmentForm ≡ true
sampled_judgment_form = refl

good_axiomatized : is_good forms follow part.Axiomatized ≡ true
good_axiomatized = refl

sampled_axiomatized : is_sampled forms sample part.Axiomatized ≡ true
sampled_axiomatized = refl

good_axiom_consts : is_good forms follow part.AxiomConsts ≡ true
good_axiom_consts = refl

sampled_axiom_consts : is_sampled forms sample part.AxiomConsts ≡ true
sampled_axiom_consts = refl

good_axiom : is_good forms follow part.Axiom ≡ true
good_axiom = refl

sampled_axiom : is_sampled forms sample part.Axiom ≡ true
sampled_axiom = refl

good_more_axioms : is_good forms follow part.MoreAxioms ≡ true
good_more_axioms = refl

sampled_more_axioms : is_sampled forms sample part.MoreAxioms ≡ true
sampled_more_axioms = refl

good_parts : is_good forms follow part.Parts ≡ true
good_parts = refl

sampled_parts : is_sampled forms sample part.Parts ≡ true
sampled_parts = refl

good_uses_declares : is_good forms follow part.UsesDeclares ≡ true
good_uses_declares = refl

sampled_uses_declares : is_sampled forms sample part.UsesDeclares ≡ true
sampled_uses_declares = refl

good_methods_declares : is_good forms follow part.MethodsDeclares ≡ true
good_methods_declares = refl

sampled_methods_declares : is_sampled forms sample part.MethodsDeclares ≡ true
sampled_methods_declares = refl

good_methods_uses : is_good forms follow part.MethodsUses ≡ true
good_methods_uses = refl

sampled_methods_uses : is_sampled forms sample part.MethodsUses ≡ true
sampled_methods_uses = refl

good_methods_alone : is_good forms follow part.MethodsAlone ≡ true
good_methods_alone = refl

sampled_methods_alone : is_sampled forms sample part.MethodsAlone ≡ true
sampled_methods_alone = refl

good_uses_alone : is_good forms follow part.UsesAlone ≡ true
good_uses_alone = refl

sampled_uses_alone : is_sampled forms sample part.UsesAlone ≡ true
sampled_uses_alone = refl

good_declares_alone : is_good forms follow part.DeclaresAlone ≡ true
good_declares_alone = refl

sampled_declares_alone : is_sampled forms sample part.DeclaresAlone ≡ true
sampled_declares_alone = refl

good_body : is_good forms follow part.Body ≡ true
good_body = refl

sampled_body : is_sampled forms sample part.Body ≡ true
sampled_body = refl

good_statement : is_good forms follow part.Statement ≡ true
good_statement = refl

sampled_statement : is_sampled forms sample part.Statement ≡ true
sampled_statement = refl

good_statement_name : is_good forms follow part.StatementName ≡ true
good_statement_name = refl

sampled_statement_name : is_sampled forms sample part.StatementName ≡ true
sampled_statement_name = refl

good_stated : is_good forms follow part.Stated ≡ true
good_stated = refl

sampled_stated : is_sampled forms sample part.Stated ≡ true
sampled_stated = refl

good_opt_assumes : is_good forms follow part.OptAssumes ≡ true
good_opt_assumes = refl

sampled_opt_assumes : is_sampled forms sample part.OptAssumes ≡ true
sampled_opt_assumes = refl

good_more_equations : is_good forms follow part.MoreEquations ≡ true
good_more_equations = refl

sampled_more_equations : is_sampled forms sample part.MoreEquations ≡ true
sampled_more_equations = refl

good_note_name : is_good forms follow part.NoteName ≡ true
good_note_name = refl

sampled_note_name : is_sampled forms sample part.NoteName ≡ true
sampled_note_name = refl

good_note_equal : is_good forms follow part.NoteEqual ≡ true
good_note_equal = refl

sampled_note_equal : is_sampled forms sample part.NoteEqual ≡ true
sampled_note_equal = refl

good_note_more : is_good forms follow part.NoteMore ≡ true
good_note_more = refl

sampled_note_more : is_sampled forms sample part.NoteMore ≡ true
sampled_note_more = refl

good_obtained : is_good forms follow part.Obtained ≡ true
good_obtained = refl

sampled_obtained : is_sampled forms sample part.Obtained ≡ true
sampled_obtained = refl

good_obtained_one : is_good forms follow part.ObtainedOne ≡ true
good_obtained_one = refl

sampled_obtained_one : is_sampled forms sample part.ObtainedOne ≡ true
sampled_obtained_one = refl

good_obtained_more : is_good forms follow part.ObtainedMore ≡ true
good_obtained_more = refl

sampled_obtained_more : is_sampled forms sample part.ObtainedMore ≡ true
sampled_obtained_more = refl

good_command : is_good forms follow part.Command ≡ true
good_command = refl

sampled_command : is_sampled forms sample part.Command ≡ true
sampled_command = refl

pub good : (p : Part) → is_good forms follow p ≡ true
good part.Fact = good_fact
good part.Facts = good_facts
good part.MoreFacts = good_more_facts
good part.Sels = good_sels
good part.Sel = good_sel
good part.SelTo = good_sel_to
good part.MoreSels = good_more_sels
good part.OptAtts = good_opt_atts
good part.MoreAtts = good_more_atts
good part.Att = good_att
good part.OptMark = good_opt_mark
good part.OfFacts = good_of_facts
good part.FactPlaces = good_fact_places
good part.ThenFact = good_then_fact
good part.OfTerms = good_of_terms
good part.TermPlaces = good_term_places
good part.MoreWheres = good_more_wheres
good part.Prop = good_prop
good part.Pattern = good_pattern
good part.Terms = good_terms
good part.Claim = good_claim
good part.ClaimName = good_claim_name
good part.Props = good_props
good part.PropsName = good_props_name
good part.MoreProps = good_more_props
good part.LabelledTerm = good_labelled_term
good part.TermName = good_term_name
good part.Names = good_names
good part.Idents = good_idents
good part.OfType = good_of_type
good part.Vars = good_vars
good part.MoreVars = good_more_vars
good part.OptFor = good_opt_for
good part.Const = good_const
good part.Fix = good_fix
good part.Fixity = good_fixity
good part.Method = good_method
good part.OptMethod = good_opt_method
good part.Suffix = good_suffix
good part.OptNat = good_opt_nat
good part.MoreAlt = good_more_alt
good part.MoreSemi = good_more_semi
good part.MoreSeq = good_more_seq
good part.Item = good_item
good part.RuleRest = good_rule_rest
good part.CallRest = good_call_rest
good part.CallArgs = good_call_args
good part.CallIdent = good_call_ident
good part.Sections = good_sections
good part.SectionIdent = good_section_ident
good part.MatchRest = good_match_rest
good part.SubjectName = good_subject_name
good part.Cases = good_cases
good part.MoreCases = good_more_cases
good part.Pat = good_pat
good part.PatIdent = good_pat_ident
good part.Cut = good_cut
good part.MorePats = good_more_pats
good part.Typed = good_typed
good part.MoreTvars = good_more_tvars
good part.MoreConsts = good_more_consts
good part.JudgmentForm = good_judgment_form
good part.Axiomatized = good_axiomatized
good part.AxiomConsts = good_axiom_consts
good part.Axiom = good_axiom
good part.MoreAxioms = good_more_axioms
good part.Parts = good_parts
good part.UsesDeclares = good_uses_declares
good part.MethodsDeclares = good_methods_declares
good part.MethodsUses = good_methods_uses
good part.MethodsAlone = good_methods_alone
good part.UsesAlone = good_uses_alone
good part.DeclaresAlone = good_declares_alone
good part.Body = good_body
good part.Statement = good_statement
good part.StatementName = good_statement_name
good part.Stated = good_stated
good part.OptAssumes = good_opt_assumes
good part.MoreEquations = good_more_equations
good part.NoteName = good_note_name
good part.NoteEqual = good_note_equal
good part.NoteMore = good_note_more
good part.Obtained = good_obtained
good part.ObtainedOne = good_obtained_one
good part.ObtainedMore = good_obtained_more
good part.Command = good_command

pub sampled : (p : Part) → is_sampled forms sample p ≡ true
sampled part.Fact = sampled_fact
sampled part.Facts = sampled_facts
sampled part.MoreFacts = sampled_more_facts
sampled part.Sels = sampled_sels
sampled part.Sel = sampled_sel
sampled part.SelTo = sampled_sel_to
sampled part.MoreSels = sampled_more_sels
sampled part.OptAtts = sampled_opt_atts
sampled part.MoreAtts = sampled_more_atts
sampled part.Att = sampled_att
sampled part.OptMark = sampled_opt_mark
sampled part.OfFacts = sampled_of_facts
sampled part.FactPlaces = sampled_fact_places
sampled part.ThenFact = sampled_then_fact
sampled part.OfTerms = sampled_of_terms
sampled part.TermPlaces = sampled_term_places
sampled part.MoreWheres = sampled_more_wheres
sampled part.Prop = sampled_prop
sampled part.Pattern = sampled_pattern
sampled part.Terms = sampled_terms
sampled part.Claim = sampled_claim
sampled part.ClaimName = sampled_claim_name
sampled part.Props = sampled_props
sampled part.PropsName = sampled_props_name
sampled part.MoreProps = sampled_more_props
sampled part.LabelledTerm = sampled_labelled_term
sampled part.TermName = sampled_term_name
sampled part.Names = sampled_names
sampled part.Idents = sampled_idents
sampled part.OfType = sampled_of_type
sampled part.Vars = sampled_vars
sampled part.MoreVars = sampled_more_vars
sampled part.OptFor = sampled_opt_for
sampled part.Const = sampled_const
sampled part.Fix = sampled_fix
sampled part.Fixity = sampled_fixity
sampled part.Method = sampled_method
sampled part.OptMethod = sampled_opt_method
sampled part.Suffix = sampled_suffix
sampled part.OptNat = sampled_opt_nat
sampled part.MoreAlt = sampled_more_alt
sampled part.MoreSemi = sampled_more_semi
sampled part.MoreSeq = sampled_more_seq
sampled part.Item = sampled_item
sampled part.RuleRest = sampled_rule_rest
sampled part.CallRest = sampled_call_rest
sampled part.CallArgs = sampled_call_args
sampled part.CallIdent = sampled_call_ident
sampled part.Sections = sampled_sections
sampled part.SectionIdent = sampled_section_ident
sampled part.MatchRest = sampled_match_rest
sampled part.SubjectName = sampled_subject_name
sampled part.Cases = sampled_cases
sampled part.MoreCases = sampled_more_cases
sampled part.Pat = sampled_pat
sampled part.PatIdent = sampled_pat_ident
sampled part.Cut = sampled_cut
sampled part.MorePats = sampled_more_pats
sampled part.Typed = sampled_typed
sampled part.MoreTvars = sampled_more_tvars
sampled part.MoreConsts = sampled_more_consts
sampled part.JudgmentForm = sampled_judgment_form
sampled part.Axiomatized = sampled_axiomatized
sampled part.AxiomConsts = sampled_axiom_consts
sampled part.Axiom = sampled_axiom
sampled part.MoreAxioms = sampled_more_axioms
sampled part.Parts = sampled_parts
sampled part.UsesDeclares = sampled_uses_declares
sampled part.MethodsDeclares = sampled_methods_declares
sampled part.MethodsUses = sampled_methods_uses
sampled part.MethodsAlone = sampled_methods_alone
sampled part.UsesAlone = sampled_uses_alone
sampled part.DeclaresAlone = sampled_declares_alone
sampled part.Body = sampled_body
sampled part.Statement = sampled_statement
sampled part.StatementName = sampled_statement_name
sampled part.Stated = sampled_stated
sampled part.OptAssumes = sampled_opt_assumes
sampled part.MoreEquations = sampled_more_equations
sampled part.NoteName = sampled_note_name
sampled part.NoteEqual = sampled_note_equal
sampled part.NoteMore = sampled_note_more
sampled part.Obtained = sampled_obtained
sampled part.ObtainedOne = sampled_obtained_one
sampled part.ObtainedMore = sampled_obtained_more
sampled part.Command = sampled_command
