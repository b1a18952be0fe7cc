-- Written by tools/outer_laws.py from tools/readings.txt.
-- Where a place among the tokens that a form leaves is: among those that it reads.
use Rattle.std.proofs.Common.{ℕ, List, inr}
use Rattle.std.specs.Prelude.{Option}
use Rattle.iv_text.specs.declared.Pos.{Pos}
use Rattle.iv_forms.specs.declared.lexeme.Lexeme.{Lexeme}
use Rattle.iv_facts.specs.Found.{IsAmong}
use Rattle.iv_readmethod.specs.Laws.{Below}
use Rattle.iv_forms.specs.declared.method.Section.{Section}
use Rattle.iv_forms.specs.declared.method.Subject.{Subject}
use Rattle.iv_forms.specs.declared.method.Cut.{Cut}
use Rattle.iv_forms.specs.declared.method.Pattern.{Pattern}
use Rattle.iv_forms.specs.declared.method.MethodText.{MethodText}
use Rattle.iv_forms.specs.declared.method.Arg.{Arg}
use Rattle.iv_forms.specs.declared.method.Case.{Case}
use Rattle.iv_forms.specs.MethodForm.{IsAlt, IsArg, IsArgs, IsCase, IsCases, IsCore, IsCut, IsItem, IsMethod, IsMoreAlt, IsMoreCases, IsMorePatterns, IsMoreSemi, IsMoreSeq, IsOptMethod, IsOptNat, IsPattern, IsSection, IsSections, IsSemi, IsSeq, IsSubject, IsSuffix, a_cut, a_method, a_number, alt, arg_method, arg_term, args, bar, case_is, cases, comma, conclusion, core_dash, core_name, core_paren, first, item_call, item_match, item_method, item_rule, item_sections, method, more_cases, more_patterns, named_pattern, no_args, no_bar, no_comma, no_cut, no_method, no_more_cases, no_more_patterns, no_number, no_sections, no_semicolon, no_suffix, pattern_, premises, repeat, section, sections, semi, semicolon, seq, subject_facts, subject_term, try}

module _ (law : Below) where
  pub tail_IsOptNat : (p : Pos) → {v : ℕ} {ts us : List Lexeme} → IsOptNat v ts us → IsAmong p us → IsAmong p ts
  tail_IsOptNat p no_number q = q
  tail_IsOptNat p (a_number a) q = inr q

  pub tail_IsCut : (p : Pos) → {v : Cut} {ts us : List Lexeme} → IsCut v ts us → IsAmong p us → IsAmong p ts
  tail_IsCut p no_cut q = q
  tail_IsCut p (a_cut a b c d) q = inr (inr (tail_IsOptNat p c (inr q)))

  pub tail_IsPattern : (p : Pos) → {v : Pattern} {ts us : List Lexeme} → IsPattern v ts us → IsAmong p us → IsAmong p ts
  tail_IsPattern p (named_pattern a b c d) q = inr (inr (inr (tail_IsCut p d q)))
  tail_IsPattern p (pattern_ a b) q = inr (tail_IsCut p b q)

  pub tail_IsMorePatterns : (p : Pos) → {v : List Pattern} {ts us : List Lexeme} → IsMorePatterns v ts us → IsAmong p us → IsAmong p ts
  tail_IsMorePatterns p no_more_patterns q = q
  tail_IsMorePatterns p (more_patterns a b c) q = inr (tail_IsPattern p b (tail_IsMorePatterns p c q))

  pub tail_IsSection : (p : Pos) → {v : Section} {ts us : List Lexeme} → IsSection v ts us → IsAmong p us → IsAmong p ts
  tail_IsSection p (section a b c) q = inr (inr (law.tails.facts p c q))

  pub tail_IsSections : (p : Pos) → {v : List Section} {ts us : List Lexeme} → IsSections v ts us → IsAmong p us → IsAmong p ts
  tail_IsSections p no_sections q = q
  tail_IsSections p (sections a b) q = tail_IsSection p a (tail_IsSections p b q)

  pub tail_IsSubject : (p : Pos) → {v : Subject} {ts us : List Lexeme} → IsSubject v ts us → IsAmong p us → IsAmong p ts
  tail_IsSubject p (premises a) q = inr q
  tail_IsSubject p (conclusion a) q = inr q
  tail_IsSubject p (subject_term a b c) q = inr (inr (inr q))
  tail_IsSubject p (subject_facts a b c d z) q = inr (law.tails.sels p b (law.tails.opt_atts p c (law.tails.more_facts p d q)))

  mutual
    pub tail_IsMethod : (p : Pos) → {v : MethodText} {ts us : List Lexeme} → IsMethod v ts us → IsAmong p us → IsAmong p ts
    tail_IsMethod p (method a b) q = tail_IsCore p a (tail_IsSuffix p b q)

    pub tail_IsCore : (p : Pos) → {v : MethodText} {ts us : List Lexeme} → IsCore v ts us → IsAmong p us → IsAmong p ts
    tail_IsCore p (core_name a) q = inr q
    tail_IsCore p (core_dash a) q = inr q
    tail_IsCore p (core_paren a b c) q = inr (tail_IsAlt p b (inr q))

    pub tail_IsSuffix : (p : Pos) → {v : MethodText} {w : MethodText} {ts us : List Lexeme} → IsSuffix v w ts us → IsAmong p us → IsAmong p ts
    tail_IsSuffix p no_suffix q = q
    tail_IsSuffix p (try a) q = inr q
    tail_IsSuffix p (repeat a) q = inr q
    tail_IsSuffix p (first a b c) q = inr (tail_IsOptNat p b (inr q))

    pub tail_IsAlt : (p : Pos) → {v : MethodText} {ts us : List Lexeme} → IsAlt v ts us → IsAmong p us → IsAmong p ts
    tail_IsAlt p (alt a b) q = tail_IsSemi p a (tail_IsMoreAlt p b q)

    pub tail_IsMoreAlt : (p : Pos) → {v : MethodText} {w : MethodText} {ts us : List Lexeme} → IsMoreAlt v w ts us → IsAmong p us → IsAmong p ts
    tail_IsMoreAlt p no_bar q = q
    tail_IsMoreAlt p (bar a b c) q = inr (tail_IsSemi p b (tail_IsMoreAlt p c q))

    pub tail_IsSemi : (p : Pos) → {v : MethodText} {ts us : List Lexeme} → IsSemi v ts us → IsAmong p us → IsAmong p ts
    tail_IsSemi p (semi a b) q = tail_IsSeq p a (tail_IsMoreSemi p b q)

    pub tail_IsMoreSemi : (p : Pos) → {v : MethodText} {w : MethodText} {ts us : List Lexeme} → IsMoreSemi v w ts us → IsAmong p us → IsAmong p ts
    tail_IsMoreSemi p no_semicolon q = q
    tail_IsMoreSemi p (semicolon a b c) q = inr (tail_IsSeq p b (tail_IsMoreSemi p c q))

    pub tail_IsSeq : (p : Pos) → {v : MethodText} {ts us : List Lexeme} → IsSeq v ts us → IsAmong p us → IsAmong p ts
    tail_IsSeq p (seq a b) q = tail_IsItem p a (tail_IsMoreSeq p b q)

    pub tail_IsMoreSeq : (p : Pos) → {v : MethodText} {w : MethodText} {ts us : List Lexeme} → IsMoreSeq v w ts us → IsAmong p us → IsAmong p ts
    tail_IsMoreSeq p no_comma q = q
    tail_IsMoreSeq p (comma a b c) q = inr (tail_IsItem p b (tail_IsMoreSeq p c q))

    pub tail_IsItem : (p : Pos) → {v : MethodText} {ts us : List Lexeme} → IsItem v ts us → IsAmong p us → IsAmong p ts
    tail_IsItem p (item_method a) q = tail_IsMethod p a q
    tail_IsItem p (item_rule a b) q = inr (law.tails.facts p b q)
    tail_IsItem p (item_call a b c d) q = inr (tail_IsArg p b (tail_IsArgs p c (tail_IsSections p d q)))
    tail_IsItem p (item_sections a b c) q = inr (tail_IsSection p b (tail_IsSections p c q))
    tail_IsItem p (item_match a b c) q = inr (tail_IsSubject p b (tail_IsCases p c q))

    pub tail_IsArg : (p : Pos) → {v : Arg} {ts us : List Lexeme} → IsArg v ts us → IsAmong p us → IsAmong p ts
    tail_IsArg p (arg_term a) q = inr q
    tail_IsArg p (arg_method a b c) q = inr (tail_IsAlt p b (inr q))

    pub tail_IsArgs : (p : Pos) → {v : List Arg} {ts us : List Lexeme} → IsArgs v ts us → IsAmong p us → IsAmong p ts
    tail_IsArgs p no_args q = q
    tail_IsArgs p (args a b) q = tail_IsArg p a (tail_IsArgs p b q)

    pub tail_IsCases : (p : Pos) → {v : List Case} {ts us : List Lexeme} → IsCases v ts us → IsAmong p us → IsAmong p ts
    tail_IsCases p (cases a b c) q = inr (tail_IsCase p b (tail_IsMoreCases p c q))

    pub tail_IsMoreCases : (p : Pos) → {v : List Case} {ts us : List Lexeme} → IsMoreCases v ts us → IsAmong p us → IsAmong p ts
    tail_IsMoreCases p no_more_cases q = q
    tail_IsMoreCases p (more_cases a b c) q = inr (tail_IsCase p b (tail_IsMoreCases p c q))

    pub tail_IsCase : (p : Pos) → {v : Case} {ts us : List Lexeme} → IsCase v ts us → IsAmong p us → IsAmong p ts
    tail_IsCase p (case_is a b c d e f g) q = tail_IsPattern p a (tail_IsMorePatterns p b (law.tails.opt_for p c (inr (inr (tail_IsAlt p f (inr q))))))

  pub tail_IsOptMethod : (p : Pos) → {v : Option MethodText} {ts us : List Lexeme} → IsOptMethod v ts us → IsAmong p us → IsAmong p ts
  tail_IsOptMethod p no_method q = q
  tail_IsOptMethod p (a_method a) q = tail_IsMethod p a q
