-- Where a method, or a fact in it, is too deep, one of the tokens begins.
use Rattle.std.proofs.Common.{List, inr}
use Rattle.std.specs.Prelude.{Option}
use Rattle.iv_forms.specs.declared.method.Section.{Section}
use Rattle.iv_forms.specs.declared.method.Subject.{Subject}
use Rattle.iv_forms.specs.declared.method.MethodText.{MethodText}
use Rattle.iv_forms.specs.declared.method.Arg.{Arg}
use Rattle.iv_forms.specs.declared.method.Case.{Case}
use Rattle.iv_forms.specs.declared.lexeme.Lexeme.{Lexeme}
use Rattle.iv_forms.specs.FactForm.{fact, facts}
use Rattle.iv_forms.specs.MethodForm.{IsSection, section, IsSections, no_sections, sections, IsSubject, premises, conclusion, subject_term, subject_facts, IsMethod, method, IsCore, core_name, core_dash, core_paren, IsAlt, alt, IsMoreAlt, no_bar, bar, IsSemi, semi, IsMoreSemi, no_semicolon, semicolon, IsSeq, seq, IsMoreSeq, no_comma, comma, IsItem, item_method, item_rule, item_call, item_sections, item_match, IsArg, arg_term, arg_method, IsArgs, no_args, args, IsCases, cases, IsMoreCases, no_more_cases, more_cases, IsCase, case_is, IsOptMethod, no_method, a_method}
use Rattle.iv_facts.specs.FactLevels.{first_of}
use Rattle.iv_readmethod.specs.MethodLevels.{method_levels, deep_section, deep_sections, deep_subject, fact_in_method, fact_in_core, fact_in_alt, fact_in_more_alt, fact_in_semi, fact_in_more_semi, fact_in_seq, fact_in_more_seq, fact_in_item, fact_in_arg, fact_in_args, fact_in_cases, fact_in_more_cases, fact_in_case, deep_method, deep_opt_method}
use Rattle.iv_readmethod.proofs.Lengths.{len_IsMethod}
use Rattle.iv_readmethod.proofs.Tails.{tail_IsPattern, tail_IsMorePatterns, tail_IsSection, tail_IsSubject, tail_IsSemi, tail_IsSeq, tail_IsItem, tail_IsArg, tail_IsArgs, tail_IsCase}
use Rattle.iv_facts.specs.Found.{Placed, nowhere}
use Rattle.iv_facts.proofs.FactPlaces.{either, later, behind_token, at_first}
use Rattle.iv_readmethod.specs.Laws.{Below}

module _ (law : Below) where
  section_places : {v : Section} {ts us : List Lexeme} (d : IsSection v ts us) → Placed ts (deep_section d)
  section_places (section x c fs) = behind_token (behind_token (law.places.facts fs))

  sections_places : {v : List Section} {ts us : List Lexeme} (d : IsSections v ts us) → Placed ts (deep_sections d)
  sections_places no_sections = nowhere
  sections_places (sections x xs) = either (section_places x) (later (λ p. tail_IsSection law p x) (sections_places xs))

  subject_places : {v : Subject} {ts us : List Lexeme} (d : IsSubject v ts us) → Placed ts (deep_subject d)
  subject_places (premises w) = nowhere
  subject_places (conclusion w) = nowhere
  subject_places (subject_term a t b) = nowhere
  subject_places (subject_facts {n = x} n ss xs fs b) = law.places.facts (facts (fact {n = x} n ss xs) fs)

  mutual
    in_method : {v : MethodText} {ts us : List Lexeme} (d : IsMethod v ts us) → Placed ts (fact_in_method d)
    in_method (method m s) = in_core m

    in_core : {v : MethodText} {ts us : List Lexeme} (d : IsCore v ts us) → Placed ts (fact_in_core d)
    in_core (core_name n) = nowhere
    in_core (core_dash d) = nowhere
    in_core (core_paren a m b) = behind_token (in_alt m)

    in_alt : {v : MethodText} {ts us : List Lexeme} (d : IsAlt v ts us) → Placed ts (fact_in_alt d)
    in_alt (alt m ms) = either (in_semi m) (later (λ p. tail_IsSemi law p m) (in_more_alt ms))

    in_more_alt : {m v : MethodText} {ts us : List Lexeme} (d : IsMoreAlt m v ts us) → Placed ts (fact_in_more_alt d)
    in_more_alt no_bar = nowhere
    in_more_alt (bar c m ms) = behind_token (either (in_semi m) (later (λ p. tail_IsSemi law p m) (in_more_alt ms)))

    in_semi : {v : MethodText} {ts us : List Lexeme} (d : IsSemi v ts us) → Placed ts (fact_in_semi d)
    in_semi (semi m ms) = either (in_seq m) (later (λ p. tail_IsSeq law p m) (in_more_semi ms))

    in_more_semi : {m v : MethodText} {ts us : List Lexeme} (d : IsMoreSemi m v ts us) → Placed ts (fact_in_more_semi d)
    in_more_semi no_semicolon = nowhere
    in_more_semi (semicolon c m ms) = behind_token (either (in_seq m) (later (λ p. tail_IsSeq law p m) (in_more_semi ms)))

    in_seq : {v : MethodText} {ts us : List Lexeme} (d : IsSeq v ts us) → Placed ts (fact_in_seq d)
    in_seq (seq m ms) = either (in_item m) (later (λ p. tail_IsItem law p m) (in_more_seq ms))

    in_more_seq : {m v : MethodText} {ts us : List Lexeme} (d : IsMoreSeq m v ts us) → Placed ts (fact_in_more_seq d)
    in_more_seq no_comma = nowhere
    in_more_seq (comma c m ms) = behind_token (either (in_item m) (later (λ p. tail_IsItem law p m) (in_more_seq ms)))

    in_item : {v : MethodText} {ts us : List Lexeme} (d : IsItem v ts us) → Placed ts (fact_in_item d)
    in_item (item_method m) = in_method m
    in_item (item_rule w fs) = behind_token (law.places.facts fs)
    in_item (item_call {ts = ts} n e es xs) =
        let more : Placed ts (first_of (fact_in_arg e) (fact_in_args es)) = either (in_arg e) (later (λ p. tail_IsArg law p e) (in_args es)) in
        behind_token (either more (later (λ p q. tail_IsArg law p e (tail_IsArgs law p es q)) (sections_places xs)))
    in_item (item_sections n x xs) = behind_token (either (section_places x) (later (λ p. tail_IsSection law p x) (sections_places xs)))
    in_item (item_match w s cs) = behind_token (either (subject_places s) (later (λ p. tail_IsSubject law p s) (in_cases cs)))

    in_arg : {v : Arg} {ts us : List Lexeme} (d : IsArg v ts us) → Placed ts (fact_in_arg d)
    in_arg (arg_term t) = nowhere
    in_arg (arg_method a m b) = behind_token (in_alt m)

    in_args : {v : List Arg} {ts us : List Lexeme} (d : IsArgs v ts us) → Placed ts (fact_in_args d)
    in_args no_args = nowhere
    in_args (args e es) = either (in_arg e) (later (λ p. tail_IsArg law p e) (in_args es))

    in_cases : {v : List Case} {ts us : List Lexeme} (d : IsCases v ts us) → Placed ts (fact_in_cases d)
    in_cases (cases w c cs) = behind_token (either (in_case c) (later (λ p. tail_IsCase law p c) (in_more_cases cs)))

    in_more_cases : {v : List Case} {ts us : List Lexeme} (d : IsMoreCases v ts us) → Placed ts (fact_in_more_cases d)
    in_more_cases no_more_cases = nowhere
    in_more_cases (more_cases b c cs) = behind_token (either (in_case c) (later (λ p. tail_IsCase law p c) (in_more_cases cs)))

    in_case : {v : Case} {ts us : List Lexeme} (d : IsCase v ts us) → Placed ts (fact_in_case d)
    in_case (case_is x xs gs a i m o) = later (λ p q. tail_IsPattern law p x (tail_IsMorePatterns law p xs (law.tails.opt_for p gs (inr (inr q))))) (in_alt m)

  pub method_places : {v : MethodText} {ts us : List Lexeme} (d : IsMethod v ts us) → Placed ts (deep_method d)
  method_places {ts = ts} d = either (at_first ts _ (len_IsMethod law d) (method_levels d)) (in_method d)

  pub opt_method_places : {v : Option MethodText} {ts us : List Lexeme} (d : IsOptMethod v ts us) → Placed ts (deep_opt_method d)
  opt_method_places no_method = nowhere
  opt_method_places (a_method m) = method_places m
