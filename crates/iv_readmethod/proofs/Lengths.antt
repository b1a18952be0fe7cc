-- Written by tools/outer_laws.py from tools/readings.txt.
-- How many tokens a form leaves.
use Rattle.std.proofs.Common.{ℕ, ◌<◌, ◌≤◌, List, length, arith}
use Rattle.std.specs.Prelude.{Option}
use Rattle.iv_forms.specs.declared.lexeme.Lexeme.{Lexeme}
use Rattle.iv_readmethod.specs.Laws.{Below}
use Rattle.iv_forms.specs.declared.method.Section.{Section}
use Rattle.iv_forms.specs.declared.method.Subject.{Subject}
use Rattle.iv_forms.specs.declared.method.Cut.{Cut}
use Rattle.iv_forms.specs.declared.method.Pattern.{Pattern}
use Rattle.iv_forms.specs.declared.method.MethodText.{MethodText}
use Rattle.iv_forms.specs.declared.method.Arg.{Arg}
use Rattle.iv_forms.specs.declared.method.Case.{Case}
use Rattle.iv_forms.specs.MethodForm.{IsAlt, IsArg, IsArgs, IsCase, IsCases, IsCore, IsCut, IsItem, IsMethod, IsMoreAlt, IsMoreCases, IsMorePatterns, IsMoreSemi, IsMoreSeq, IsOptMethod, IsOptNat, IsPattern, IsSection, IsSections, IsSemi, IsSeq, IsSubject, IsSuffix, a_cut, a_method, a_number, alt, arg_method, arg_term, args, bar, case_is, cases, comma, conclusion, core_dash, core_name, core_paren, first, item_call, item_match, item_method, item_rule, item_sections, method, more_cases, more_patterns, named_pattern, no_args, no_bar, no_comma, no_cut, no_method, no_more_cases, no_more_patterns, no_number, no_sections, no_semicolon, no_suffix, pattern_, premises, repeat, section, sections, semi, semicolon, seq, subject_facts, subject_term, try}

module _ (law : Below) where
  pub len_IsOptNat : {v : ℕ} {ts us : List Lexeme} → IsOptNat v ts us → length us ≤ length ts
  len_IsOptNat no_number = omega (arith)
  len_IsOptNat (a_number a) = omega (arith)

  pub len_IsCut : {v : Cut} {ts us : List Lexeme} → IsCut v ts us → length us ≤ length ts
  len_IsCut no_cut = omega (arith)
  len_IsCut (a_cut a b c d) = omega (arith, len_IsOptNat c)

  pub len_IsPattern : {v : Pattern} {ts us : List Lexeme} → IsPattern v ts us → length us < length ts
  len_IsPattern (named_pattern a b c d) = omega (arith, len_IsCut d)
  len_IsPattern (pattern_ a b) = omega (arith, len_IsCut b)

  pub len_IsMorePatterns : {v : List Pattern} {ts us : List Lexeme} → IsMorePatterns v ts us → length us ≤ length ts
  len_IsMorePatterns no_more_patterns = omega (arith)
  len_IsMorePatterns (more_patterns a b c) = omega (arith, len_IsPattern b, len_IsMorePatterns c)

  pub len_IsSection : {v : Section} {ts us : List Lexeme} → IsSection v ts us → length us < length ts
  len_IsSection (section a b c) = omega (arith, law.lengths.facts c)

  pub len_IsSections : {v : List Section} {ts us : List Lexeme} → IsSections v ts us → length us ≤ length ts
  len_IsSections no_sections = omega (arith)
  len_IsSections (sections a b) = omega (arith, len_IsSection a, len_IsSections b)

  pub len_IsSubject : {v : Subject} {ts us : List Lexeme} → IsSubject v ts us → length us < length ts
  len_IsSubject (premises a) = omega (arith)
  len_IsSubject (conclusion a) = omega (arith)
  len_IsSubject (subject_term a b c) = omega (arith)
  len_IsSubject (subject_facts a b c d z) = omega (arith, law.lengths.sels b, law.lengths.opt_atts c, law.lengths.more_facts d)

  mutual
    pub len_IsMethod : {v : MethodText} {ts us : List Lexeme} → IsMethod v ts us → length us < length ts
    len_IsMethod (method a b) = omega (arith, len_IsCore a, len_IsSuffix b)

    pub len_IsCore : {v : MethodText} {ts us : List Lexeme} → IsCore v ts us → length us < length ts
    len_IsCore (core_name a) = omega (arith)
    len_IsCore (core_dash a) = omega (arith)
    len_IsCore (core_paren a b c) = omega (arith, len_IsAlt b)

    pub len_IsSuffix : {v : MethodText} {w : MethodText} {ts us : List Lexeme} → IsSuffix v w ts us → length us ≤ length ts
    len_IsSuffix no_suffix = omega (arith)
    len_IsSuffix (try a) = omega (arith)
    len_IsSuffix (repeat a) = omega (arith)
    len_IsSuffix (first a b c) = omega (arith, len_IsOptNat b)

    pub len_IsAlt : {v : MethodText} {ts us : List Lexeme} → IsAlt v ts us → length us < length ts
    len_IsAlt (alt a b) = omega (arith, len_IsSemi a, len_IsMoreAlt b)

    pub len_IsMoreAlt : {v : MethodText} {w : MethodText} {ts us : List Lexeme} → IsMoreAlt v w ts us → length us ≤ length ts
    len_IsMoreAlt no_bar = omega (arith)
    len_IsMoreAlt (bar a b c) = omega (arith, len_IsSemi b, len_IsMoreAlt c)

    pub len_IsSemi : {v : MethodText} {ts us : List Lexeme} → IsSemi v ts us → length us < length ts
    len_IsSemi (semi a b) = omega (arith, len_IsSeq a, len_IsMoreSemi b)

    pub len_IsMoreSemi : {v : MethodText} {w : MethodText} {ts us : List Lexeme} → IsMoreSemi v w ts us → length us ≤ length ts
    len_IsMoreSemi no_semicolon = omega (arith)
    len_IsMoreSemi (semicolon a b c) = omega (arith, len_IsSeq b, len_IsMoreSemi c)

    pub len_IsSeq : {v : MethodText} {ts us : List Lexeme} → IsSeq v ts us → length us < length ts
    len_IsSeq (seq a b) = omega (arith, len_IsItem a, len_IsMoreSeq b)

    pub len_IsMoreSeq : {v : MethodText} {w : MethodText} {ts us : List Lexeme} → IsMoreSeq v w ts us → length us ≤ length ts
    len_IsMoreSeq no_comma = omega (arith)
    len_IsMoreSeq (comma a b c) = omega (arith, len_IsItem b, len_IsMoreSeq c)

    pub len_IsItem : {v : MethodText} {ts us : List Lexeme} → IsItem v ts us → length us < length ts
    len_IsItem (item_method a) = omega (arith, len_IsMethod a)
    len_IsItem (item_rule a b) = omega (arith, law.lengths.facts b)
    len_IsItem (item_call a b c d) = omega (arith, len_IsArg b, len_IsArgs c, len_IsSections d)
    len_IsItem (item_sections a b c) = omega (arith, len_IsSection b, len_IsSections c)
    len_IsItem (item_match a b c) = omega (arith, len_IsSubject b, len_IsCases c)

    pub len_IsArg : {v : Arg} {ts us : List Lexeme} → IsArg v ts us → length us < length ts
    len_IsArg (arg_term a) = omega (arith)
    len_IsArg (arg_method a b c) = omega (arith, len_IsAlt b)

    pub len_IsArgs : {v : List Arg} {ts us : List Lexeme} → IsArgs v ts us → length us ≤ length ts
    len_IsArgs no_args = omega (arith)
    len_IsArgs (args a b) = omega (arith, len_IsArg a, len_IsArgs b)

    pub len_IsCases : {v : List Case} {ts us : List Lexeme} → IsCases v ts us → length us < length ts
    len_IsCases (cases a b c) = omega (arith, len_IsCase b, len_IsMoreCases c)

    pub len_IsMoreCases : {v : List Case} {ts us : List Lexeme} → IsMoreCases v ts us → length us ≤ length ts
    len_IsMoreCases no_more_cases = omega (arith)
    len_IsMoreCases (more_cases a b c) = omega (arith, len_IsCase b, len_IsMoreCases c)

    pub len_IsCase : {v : Case} {ts us : List Lexeme} → IsCase v ts us → length us < length ts
    len_IsCase (case_is a b c d e f g) = omega (arith, len_IsPattern a, len_IsMorePatterns b, law.lengths.opt_for c, len_IsAlt f)

  pub len_IsOptMethod : {v : Option MethodText} {ts us : List Lexeme} → IsOptMethod v ts us → length us ≤ length ts
  len_IsOptMethod no_method = omega (arith)
  len_IsOptMethod (a_method a) = omega (arith, len_IsMethod a)
