-- Written by tools/outer_laws.py from tools/readings.txt.
-- With which tokens a form begins: none of a set that has none of its first ones.
use Rattle.std.proofs.Common.{◌≡◌, ℕ, true, false, List}
use Rattle.std.specs.Prelude.{Option}
use Rattle.iv_forms.specs.declared.lexeme.Lexeme.{Lexeme}
use Rattle.iv_recogniser.specs.declared.class.Sort.{Sort}
use Rattle.iv_recogniser.specs.declared.class.Class.TheVariants as class
use Rattle.iv_recogniser.specs.declared.class.Sort.TheVariants as sort
use Rattle.iv_facts.specs.Found.{begins}
use Rattle.iv_facts.specs.Laws.{clear}
use Rattle.iv_readmethod.specs.Laws.{Below}
use Rattle.iv_forms.specs.declared.method.Section.{Section}
use Rattle.iv_forms.specs.declared.method.Subject.{Subject}
use Rattle.iv_forms.specs.declared.method.Cut.{Cut}
use Rattle.iv_forms.specs.declared.method.Pattern.{Pattern}
use Rattle.iv_forms.specs.declared.method.MethodText.{MethodText}
use Rattle.iv_forms.specs.declared.method.Arg.{Arg}
use Rattle.iv_forms.specs.declared.method.Case.{Case}
use Rattle.iv_forms.specs.MethodForm.{IsAlt, IsArg, IsArgs, IsCase, IsCases, IsCore, IsCut, IsItem, IsMethod, IsMoreAlt, IsMoreCases, IsMorePatterns, IsMoreSemi, IsMoreSeq, IsOptMethod, IsOptNat, IsPattern, IsSection, IsSections, IsSemi, IsSeq, IsSubject, IsSuffix, a_cut, a_method, a_number, alt, arg_method, arg_term, args, bar, case_is, cases, comma, conclusion, core_dash, core_name, core_paren, first, item_call, item_match, item_method, item_rule, item_sections, method, more_cases, more_patterns, named_pattern, no_args, no_bar, no_comma, no_cut, no_method, no_more_cases, no_more_patterns, no_number, no_sections, no_semicolon, no_suffix, pattern_, premises, repeat, section, sections, semi, semicolon, seq, subject_facts, subject_term, try}

module _ (law : Below) where
  pub free_IsOptNat : (k : Sort) → clear k sort.Numeral ≡ true → {v : ℕ} {ts us : List Lexeme} → IsOptNat v ts us → begins k us ≡ false → begins k ts ≡ false
  free_IsOptNat k not_numeral no_number e = e
  free_IsOptNat k not_numeral (a_number a) e = law.sets.apart k sort.Numeral not_numeral _ a

  pub free_IsCut : (k : Sort) → clear k (sort.Only class.Open) ≡ true → {v : Cut} {ts us : List Lexeme} → IsCut v ts us → begins k us ≡ false → begins k ts ≡ false
  free_IsCut k not_open no_cut e = e
  free_IsCut k not_open (a_cut a b c d) e = law.sets.apart k (sort.Only class.Open) not_open _ a

  pub free_IsPattern : (k : Sort) → clear k sort.Identifier ≡ true → clear k sort.Term ≡ true → {v : Pattern} {ts us : List Lexeme} → IsPattern v ts us → begins k ts ≡ false
  free_IsPattern k not_identifier not_term (named_pattern a b c d) = law.sets.apart k sort.Identifier not_identifier _ a
  free_IsPattern k not_identifier not_term (pattern_ a b) = law.sets.apart k sort.Term not_term _ a

  pub free_IsMorePatterns : (k : Sort) → clear k (sort.Only class.And) ≡ true → {v : List Pattern} {ts us : List Lexeme} → IsMorePatterns v ts us → begins k us ≡ false → begins k ts ≡ false
  free_IsMorePatterns k not_and no_more_patterns e = e
  free_IsMorePatterns k not_and (more_patterns a b c) e = law.sets.apart k (sort.Only class.And) not_and _ a

  pub free_IsSection : (k : Sort) → clear k sort.Identifier ≡ true → {v : Section} {ts us : List Lexeme} → IsSection v ts us → begins k ts ≡ false
  free_IsSection k not_identifier (section a b c) = law.sets.apart k sort.Identifier not_identifier _ a

  pub free_IsSections : (k : Sort) → clear k sort.Identifier ≡ true → {v : List Section} {ts us : List Lexeme} → IsSections v ts us → begins k us ≡ false → begins k ts ≡ false
  free_IsSections k not_identifier no_sections e = e
  free_IsSections k not_identifier (sections a b) e = free_IsSection k not_identifier a

  pub free_IsSubject : (k : Sort) → clear k (sort.Only class.Premises) ≡ true → clear k (sort.Only class.Conclusion) ≡ true → clear k (sort.Only class.Open) ≡ true → clear k sort.Name ≡ true → {v : Subject} {ts us : List Lexeme} → IsSubject v ts us → begins k ts ≡ false
  free_IsSubject k not_premises not_conclusion not_open not_name (premises a) = law.sets.apart k (sort.Only class.Premises) not_premises _ a
  free_IsSubject k not_premises not_conclusion not_open not_name (conclusion a) = law.sets.apart k (sort.Only class.Conclusion) not_conclusion _ a
  free_IsSubject k not_premises not_conclusion not_open not_name (subject_term a b c) = law.sets.apart k (sort.Only class.Open) not_open _ a
  free_IsSubject k not_premises not_conclusion not_open not_name (subject_facts a b c d z) = law.sets.apart k sort.Name not_name _ a

  mutual
    pub free_IsMethod : (k : Sort) → clear k sort.Name ≡ true → clear k (sort.Only class.Minus) ≡ true → clear k (sort.Only class.Open) ≡ true → {v : MethodText} {ts us : List Lexeme} → IsMethod v ts us → begins k ts ≡ false
    free_IsMethod k not_name not_minus not_open (method a b) = free_IsCore k not_name not_minus not_open a

    pub free_IsCore : (k : Sort) → clear k sort.Name ≡ true → clear k (sort.Only class.Minus) ≡ true → clear k (sort.Only class.Open) ≡ true → {v : MethodText} {ts us : List Lexeme} → IsCore v ts us → begins k ts ≡ false
    free_IsCore k not_name not_minus not_open (core_name a) = law.sets.apart k sort.Name not_name _ a
    free_IsCore k not_name not_minus not_open (core_dash a) = law.sets.apart k (sort.Only class.Minus) not_minus _ a
    free_IsCore k not_name not_minus not_open (core_paren a b c) = law.sets.apart k (sort.Only class.Open) not_open _ a

    pub free_IsSuffix : (k : Sort) → clear k (sort.Only class.Question) ≡ true → clear k (sort.Only class.Plus) ≡ true → clear k (sort.Only class.Left) ≡ true → {v : MethodText} {w : MethodText} {ts us : List Lexeme} → IsSuffix v w ts us → begins k us ≡ false → begins k ts ≡ false
    free_IsSuffix k not_question not_plus not_left no_suffix e = e
    free_IsSuffix k not_question not_plus not_left (try a) e = law.sets.apart k (sort.Only class.Question) not_question _ a
    free_IsSuffix k not_question not_plus not_left (repeat a) e = law.sets.apart k (sort.Only class.Plus) not_plus _ a
    free_IsSuffix k not_question not_plus not_left (first a b c) e = law.sets.apart k (sort.Only class.Left) not_left _ a

    pub free_IsAlt : (k : Sort) → clear k (sort.Only class.Rule) ≡ true → clear k sort.CallName ≡ true → clear k (sort.Only class.Match) ≡ true → clear k sort.Name ≡ true → clear k (sort.Only class.Minus) ≡ true → clear k (sort.Only class.Open) ≡ true → {v : MethodText} {ts us : List Lexeme} → IsAlt v ts us → begins k ts ≡ false
    free_IsAlt k not_rule not_callname not_match not_name not_minus not_open (alt a b) = free_IsSemi k not_rule not_callname not_match not_name not_minus not_open a

    pub free_IsMoreAlt : (k : Sort) → clear k (sort.Only class.Bar) ≡ true → {v : MethodText} {w : MethodText} {ts us : List Lexeme} → IsMoreAlt v w ts us → begins k us ≡ false → begins k ts ≡ false
    free_IsMoreAlt k not_bar no_bar e = e
    free_IsMoreAlt k not_bar (bar a b c) e = law.sets.apart k (sort.Only class.Bar) not_bar _ a

    pub free_IsSemi : (k : Sort) → clear k (sort.Only class.Rule) ≡ true → clear k sort.CallName ≡ true → clear k (sort.Only class.Match) ≡ true → clear k sort.Name ≡ true → clear k (sort.Only class.Minus) ≡ true → clear k (sort.Only class.Open) ≡ true → {v : MethodText} {ts us : List Lexeme} → IsSemi v ts us → begins k ts ≡ false
    free_IsSemi k not_rule not_callname not_match not_name not_minus not_open (semi a b) = free_IsSeq k not_rule not_callname not_match not_name not_minus not_open a

    pub free_IsMoreSemi : (k : Sort) → clear k (sort.Only class.Semicolon) ≡ true → {v : MethodText} {w : MethodText} {ts us : List Lexeme} → IsMoreSemi v w ts us → begins k us ≡ false → begins k ts ≡ false
    free_IsMoreSemi k not_semicolon no_semicolon e = e
    free_IsMoreSemi k not_semicolon (semicolon a b c) e = law.sets.apart k (sort.Only class.Semicolon) not_semicolon _ a

    pub free_IsSeq : (k : Sort) → clear k (sort.Only class.Rule) ≡ true → clear k sort.CallName ≡ true → clear k (sort.Only class.Match) ≡ true → clear k sort.Name ≡ true → clear k (sort.Only class.Minus) ≡ true → clear k (sort.Only class.Open) ≡ true → {v : MethodText} {ts us : List Lexeme} → IsSeq v ts us → begins k ts ≡ false
    free_IsSeq k not_rule not_callname not_match not_name not_minus not_open (seq a b) = free_IsItem k not_rule not_callname not_match not_name not_minus not_open a

    pub free_IsMoreSeq : (k : Sort) → clear k (sort.Only class.Comma) ≡ true → {v : MethodText} {w : MethodText} {ts us : List Lexeme} → IsMoreSeq v w ts us → begins k us ≡ false → begins k ts ≡ false
    free_IsMoreSeq k not_comma no_comma e = e
    free_IsMoreSeq k not_comma (comma a b c) e = law.sets.apart k (sort.Only class.Comma) not_comma _ a

    pub free_IsItem : (k : Sort) → clear k (sort.Only class.Rule) ≡ true → clear k sort.CallName ≡ true → clear k (sort.Only class.Match) ≡ true → clear k sort.Name ≡ true → clear k (sort.Only class.Minus) ≡ true → clear k (sort.Only class.Open) ≡ true → {v : MethodText} {ts us : List Lexeme} → IsItem v ts us → begins k ts ≡ false
    free_IsItem k not_rule not_callname not_match not_name not_minus not_open (item_method a) = free_IsMethod k not_name not_minus not_open a
    free_IsItem k not_rule not_callname not_match not_name not_minus not_open (item_rule a b) = law.sets.apart k (sort.Only class.Rule) not_rule _ a
    free_IsItem k not_rule not_callname not_match not_name not_minus not_open (item_call a b c d) = law.sets.apart k sort.CallName not_callname _ a
    free_IsItem k not_rule not_callname not_match not_name not_minus not_open (item_sections a b c) = law.sets.apart k sort.CallName not_callname _ a
    free_IsItem k not_rule not_callname not_match not_name not_minus not_open (item_match a b c) = law.sets.apart k (sort.Only class.Match) not_match _ a

    pub free_IsArg : (k : Sort) → clear k sort.Term ≡ true → clear k (sort.Only class.Open) ≡ true → {v : Arg} {ts us : List Lexeme} → IsArg v ts us → begins k ts ≡ false
    free_IsArg k not_term not_open (arg_term a) = law.sets.apart k sort.Term not_term _ a
    free_IsArg k not_term not_open (arg_method a b c) = law.sets.apart k (sort.Only class.Open) not_open _ a

    pub free_IsArgs : (k : Sort) → clear k sort.Term ≡ true → clear k (sort.Only class.Open) ≡ true → {v : List Arg} {ts us : List Lexeme} → IsArgs v ts us → begins k us ≡ false → begins k ts ≡ false
    free_IsArgs k not_term not_open no_args e = e
    free_IsArgs k not_term not_open (args a b) e = free_IsArg k not_term not_open a

    pub free_IsCases : (k : Sort) → clear k (sort.Only class.In) ≡ true → {v : List Case} {ts us : List Lexeme} → IsCases v ts us → begins k ts ≡ false
    free_IsCases k not_in (cases a b c) = law.sets.apart k (sort.Only class.In) not_in _ a

    pub free_IsMoreCases : (k : Sort) → clear k (sort.Only class.CaseBar) ≡ true → {v : List Case} {ts us : List Lexeme} → IsMoreCases v ts us → begins k us ≡ false → begins k ts ≡ false
    free_IsMoreCases k not_casebar no_more_cases e = e
    free_IsMoreCases k not_casebar (more_cases a b c) e = law.sets.apart k (sort.Only class.CaseBar) not_casebar _ a

    pub free_IsCase : (k : Sort) → clear k sort.Identifier ≡ true → clear k sort.Term ≡ true → {v : Case} {ts us : List Lexeme} → IsCase v ts us → begins k ts ≡ false
    free_IsCase k not_identifier not_term (case_is a b c d f g h) = free_IsPattern k not_identifier not_term a

  pub free_IsOptMethod : (k : Sort) → clear k sort.Name ≡ true → clear k (sort.Only class.Minus) ≡ true → clear k (sort.Only class.Open) ≡ true → {v : Option MethodText} {ts us : List Lexeme} → IsOptMethod v ts us → begins k us ≡ false → begins k ts ≡ false
  free_IsOptMethod k not_name not_minus not_open no_method e = e
  free_IsOptMethod k not_name not_minus not_open (a_method a) e = free_IsMethod k not_name not_minus not_open a
