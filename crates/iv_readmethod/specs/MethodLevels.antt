-- How many levels methods have, and what they are read as: the first part that has too many is refused. Of this project.
use Rattle.std.specs.Prelude.{ℕ, suc, max, List, Option, None}
use Rattle.iv_text.specs.declared.Pos.{Pos}
use Rattle.iv_forms.specs.declared.method.Section.{Section}
use Rattle.iv_forms.specs.declared.method.Subject.{Subject}
use Rattle.iv_forms.specs.declared.method.MethodText.{MethodText}
use Rattle.iv_forms.specs.declared.method.Arg.{Arg}
use Rattle.iv_forms.specs.declared.method.Case.{Case}
use Rattle.iv_forms.specs.declared.lexeme.Lexeme.{Lexeme}
use Rattle.iv_forms.specs.FactForm.{fact, facts}
use Rattle.iv_forms.specs.MethodForm.{IsSection, section, IsSections, no_sections, sections, IsSubject, premises, conclusion, subject_term, subject_facts, IsMethod, method, IsCore, core_name, core_dash, core_paren, IsSuffix, no_suffix, try, repeat, first, IsAlt, alt, IsMoreAlt, no_bar, bar, IsSemi, semi, IsMoreSemi, no_semicolon, semicolon, IsSeq, seq, IsMoreSeq, no_comma, comma, IsItem, item_method, item_rule, item_call, item_sections, item_match, IsArg, arg_term, arg_method, IsArgs, no_args, args, IsCases, cases, IsMoreCases, no_more_cases, more_cases, IsCase, case_is, IsOptMethod, no_method, a_method}
use Rattle.iv_facts.specs.FactLevels.{deep_at, first_of, deep_facts}

-- behind a method that has so many levels
abbrev pub suffix_levels : ℕ → {m v : MethodText} {ts us : List Lexeme} → IsSuffix m v ts us → ℕ
suffix_levels n no_suffix = n
suffix_levels n (try q) = suc n
suffix_levels n (repeat q) = suc n
suffix_levels n (first a k b) = suc n

-- each pair of parentheses, each separator, each suffix and each case is one level; facts have none
abbrev mutual
  pub method_levels : {v : MethodText} {ts us : List Lexeme} → IsMethod v ts us → ℕ
  method_levels (method m s) = suffix_levels (core_levels m) s

  pub core_levels : {v : MethodText} {ts us : List Lexeme} → IsCore v ts us → ℕ
  core_levels (core_name n) = 0
  core_levels (core_dash d) = 0
  core_levels (core_paren a m b) = suc (alt_levels m)

  pub alt_levels : {v : MethodText} {ts us : List Lexeme} → IsAlt v ts us → ℕ
  alt_levels (alt m ms) = more_alt_levels (semi_levels m) ms

  pub more_alt_levels : ℕ → {m v : MethodText} {ts us : List Lexeme} → IsMoreAlt m v ts us → ℕ
  more_alt_levels n no_bar = n
  more_alt_levels n (bar c m ms) = more_alt_levels (suc (max n (semi_levels m))) ms

  pub semi_levels : {v : MethodText} {ts us : List Lexeme} → IsSemi v ts us → ℕ
  semi_levels (semi m ms) = more_semi_levels (seq_levels m) ms

  pub more_semi_levels : ℕ → {m v : MethodText} {ts us : List Lexeme} → IsMoreSemi m v ts us → ℕ
  more_semi_levels n no_semicolon = n
  more_semi_levels n (semicolon c m ms) = more_semi_levels (suc (max n (seq_levels m))) ms

  pub seq_levels : {v : MethodText} {ts us : List Lexeme} → IsSeq v ts us → ℕ
  seq_levels (seq m ms) = more_seq_levels (item_levels m) ms

  pub more_seq_levels : ℕ → {m v : MethodText} {ts us : List Lexeme} → IsMoreSeq m v ts us → ℕ
  more_seq_levels n no_comma = n
  more_seq_levels n (comma c m ms) = more_seq_levels (suc (max n (item_levels m))) ms

  pub item_levels : {v : MethodText} {ts us : List Lexeme} → IsItem v ts us → ℕ
  item_levels (item_method m) = method_levels m
  item_levels (item_rule w fs) = 0
  item_levels (item_call n e es xs) = max (arg_levels e) (args_levels es)
  item_levels (item_sections n x xs) = 0
  item_levels (item_match w s cs) = cases_levels cs

  pub arg_levels : {v : Arg} {ts us : List Lexeme} → IsArg v ts us → ℕ
  arg_levels (arg_term t) = 0
  arg_levels (arg_method a m b) = suc (alt_levels m)

  pub args_levels : {v : List Arg} {ts us : List Lexeme} → IsArgs v ts us → ℕ
  args_levels no_args = 0
  args_levels (args e es) = max (arg_levels e) (args_levels es)

  pub cases_levels : {v : List Case} {ts us : List Lexeme} → IsCases v ts us → ℕ
  cases_levels (cases w c cs) = max (case_levels c) (more_cases_levels cs)

  pub more_cases_levels : {v : List Case} {ts us : List Lexeme} → IsMoreCases v ts us → ℕ
  more_cases_levels no_more_cases = 0
  more_cases_levels (more_cases b c cs) = max (case_levels c) (more_cases_levels cs)

  pub case_levels : {v : Case} {ts us : List Lexeme} → IsCase v ts us → ℕ
  case_levels (case_is p ps gs a i m o) = suc (alt_levels m)

-- where the first fact begins that is too deep
abbrev pub deep_section : {v : Section} {ts us : List Lexeme} → IsSection v ts us → Option Pos
deep_section (section x c fs) = deep_facts fs

abbrev pub deep_sections : {v : List Section} {ts us : List Lexeme} → IsSections v ts us → Option Pos
deep_sections no_sections = None
deep_sections (sections x xs) = first_of (deep_section x) (deep_sections xs)

abbrev pub deep_subject : {v : Subject} {ts us : List Lexeme} → IsSubject v ts us → Option Pos
deep_subject (premises w) = None
deep_subject (conclusion w) = None
deep_subject (subject_term a t b) = None
deep_subject (subject_facts {n = x} n ss xs fs b) = deep_facts (facts (fact {n = x} n ss xs) fs)

abbrev mutual
  pub fact_in_method : {v : MethodText} {ts us : List Lexeme} → IsMethod v ts us → Option Pos
  fact_in_method (method m s) = fact_in_core m

  pub fact_in_core : {v : MethodText} {ts us : List Lexeme} → IsCore v ts us → Option Pos
  fact_in_core (core_name n) = None
  fact_in_core (core_dash d) = None
  fact_in_core (core_paren a m b) = fact_in_alt m

  pub fact_in_alt : {v : MethodText} {ts us : List Lexeme} → IsAlt v ts us → Option Pos
  fact_in_alt (alt m ms) = first_of (fact_in_semi m) (fact_in_more_alt ms)

  pub fact_in_more_alt : {m v : MethodText} {ts us : List Lexeme} → IsMoreAlt m v ts us → Option Pos
  fact_in_more_alt no_bar = None
  fact_in_more_alt (bar c m ms) = first_of (fact_in_semi m) (fact_in_more_alt ms)

  pub fact_in_semi : {v : MethodText} {ts us : List Lexeme} → IsSemi v ts us → Option Pos
  fact_in_semi (semi m ms) = first_of (fact_in_seq m) (fact_in_more_semi ms)

  pub fact_in_more_semi : {m v : MethodText} {ts us : List Lexeme} → IsMoreSemi m v ts us → Option Pos
  fact_in_more_semi no_semicolon = None
  fact_in_more_semi (semicolon c m ms) = first_of (fact_in_seq m) (fact_in_more_semi ms)

  pub fact_in_seq : {v : MethodText} {ts us : List Lexeme} → IsSeq v ts us → Option Pos
  fact_in_seq (seq m ms) = first_of (fact_in_item m) (fact_in_more_seq ms)

  pub fact_in_more_seq : {m v : MethodText} {ts us : List Lexeme} → IsMoreSeq m v ts us → Option Pos
  fact_in_more_seq no_comma = None
  fact_in_more_seq (comma c m ms) = first_of (fact_in_item m) (fact_in_more_seq ms)

  pub fact_in_item : {v : MethodText} {ts us : List Lexeme} → IsItem v ts us → Option Pos
  fact_in_item (item_method m) = fact_in_method m
  fact_in_item (item_rule w fs) = deep_facts fs
  fact_in_item (item_call n e es xs) = first_of (first_of (fact_in_arg e) (fact_in_args es)) (deep_sections xs)
  fact_in_item (item_sections n x xs) = first_of (deep_section x) (deep_sections xs)
  fact_in_item (item_match w s cs) = first_of (deep_subject s) (fact_in_cases cs)

  pub fact_in_arg : {v : Arg} {ts us : List Lexeme} → IsArg v ts us → Option Pos
  fact_in_arg (arg_term t) = None
  fact_in_arg (arg_method a m b) = fact_in_alt m

  pub fact_in_args : {v : List Arg} {ts us : List Lexeme} → IsArgs v ts us → Option Pos
  fact_in_args no_args = None
  fact_in_args (args e es) = first_of (fact_in_arg e) (fact_in_args es)

  pub fact_in_cases : {v : List Case} {ts us : List Lexeme} → IsCases v ts us → Option Pos
  fact_in_cases (cases w c cs) = first_of (fact_in_case c) (fact_in_more_cases cs)

  pub fact_in_more_cases : {v : List Case} {ts us : List Lexeme} → IsMoreCases v ts us → Option Pos
  fact_in_more_cases no_more_cases = None
  fact_in_more_cases (more_cases b c cs) = first_of (fact_in_case c) (fact_in_more_cases cs)

  pub fact_in_case : {v : Case} {ts us : List Lexeme} → IsCase v ts us → Option Pos
  fact_in_case (case_is p ps gs a i m o) = fact_in_alt m

-- where the first part begins that is too deep: the method itself, else a fact in it
abbrev pub deep_method : {v : MethodText} {ts us : List Lexeme} → IsMethod v ts us → Option Pos
deep_method {ts = ts} d = first_of (deep_at ts (method_levels d)) (fact_in_method d)

abbrev pub deep_opt_method : {v : Option MethodText} {ts us : List Lexeme} → IsOptMethod v ts us → Option Pos
deep_opt_method no_method = None
deep_opt_method (a_method m) = deep_method m
