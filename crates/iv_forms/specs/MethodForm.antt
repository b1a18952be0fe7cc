-- Methods: what tokens are read as which value. `IsR v ts us`: the tokens ts begin with the form R of the value v, and us stand behind it.
-- After the outer syntax of Isabelle's Reference Manual, in a profile of this project. Written by tools/outer_forms.py from tools/readings.txt.
use Rattle.std.specs.Prelude.{ℕ, List, [], ◌∷◌, Option, Some, None}
use Rattle.iv_recogniser.specs.declared.class.Class.TheVariants as class
use Rattle.iv_recogniser.specs.declared.class.Sort.TheVariants as sort
use Rattle.iv_forms.specs.declared.fact.Sel.{Sel}
use Rattle.iv_forms.specs.declared.fact.Fact.{Fact}
use Rattle.iv_forms.specs.declared.fact.Fact.TheVariants as VFact
use Rattle.iv_forms.specs.declared.fact.Att.{Att}
use Rattle.iv_forms.specs.declared.prop.VarGroup.{VarGroup}
use Rattle.iv_forms.specs.declared.method.Section.{Section}
use Rattle.iv_forms.specs.declared.method.Subject.{Subject}
use Rattle.iv_forms.specs.declared.method.Subject.TheVariants as VSubject
use Rattle.iv_forms.specs.declared.method.Cut.{Cut}
use Rattle.iv_forms.specs.declared.method.Cut.TheVariants as VCut
use Rattle.iv_forms.specs.declared.method.Pattern.{Pattern}
use Rattle.iv_forms.specs.declared.method.MethodText.{MethodText}
use Rattle.iv_forms.specs.declared.method.MethodText.TheVariants as VMethod
use Rattle.iv_forms.specs.declared.method.Arg.{Arg}
use Rattle.iv_forms.specs.declared.method.Arg.TheVariants as VArg
use Rattle.iv_forms.specs.declared.method.Case.{Case}
use Rattle.iv_forms.specs.declared.method.Case.TheVariants as VCase
use Rattle.iv_forms.specs.declared.lexeme.Lexeme.{Lexeme}
use Rattle.iv_forms.specs.Lexeme.{Is, IsA}
use Rattle.iv_forms.specs.FactForm.{IsSels, IsOptAtts, IsMoreFacts, IsFacts}
use Rattle.iv_forms.specs.PropForm.{IsOptFor}

-- NAT?, which means 1 where it is absent
pub data IsOptNat : ℕ → List Lexeme → List Lexeme → Type 0 where
  no_number : {ts : List Lexeme} → IsOptNat 1 ts ts
  a_number : {n : Lexeme} {ts : List Lexeme} → Is sort.Numeral n → IsOptNat n.number (n ∷ ts) ts

-- ("(" "cut" NAT? ")")?
pub data IsCut : Cut → List Lexeme → List Lexeme → Type 0 where
  no_cut : {ts : List Lexeme} → IsCut VCut.All ts ts
  a_cut : {a w b : Lexeme} {n : ℕ} {ts us : List Lexeme} → IsA class.Open a → IsA class.Cut w → IsOptNat n ts (b ∷ us) → IsA class.Close b → IsCut (VCut.AtMost n) (a ∷ w ∷ ts) us

-- PAT: (IDENT ":")? TERM ("(" "cut" NAT? ")")?
pub data IsPattern : Pattern → List Lexeme → List Lexeme → Type 0 where
  named_pattern : {x c t : Lexeme} {k : Cut} {ts us : List Lexeme} → Is sort.Identifier x → IsA class.Colon c → Is sort.Term t → IsCut k ts us → IsPattern (record { name = Some x.token; term = t.token; cut = k }) (x ∷ c ∷ t ∷ ts) us
  pattern_ : {t : Lexeme} {k : Cut} {ts us : List Lexeme} → Is sort.Term t → IsCut k ts us → IsPattern (record { name = None; term = t.token; cut = k }) (t ∷ ts) us

-- ("and" PAT)*
pub data IsMorePatterns : List Pattern → List Lexeme → List Lexeme → Type 0 where
  no_more_patterns : {ts : List Lexeme} → IsMorePatterns [] ts ts
  more_patterns : {a : Lexeme} {p : Pattern} {ps : List Pattern} {ts us vs : List Lexeme} → IsA class.And a → IsPattern p ts us → IsMorePatterns ps us vs → IsMorePatterns (p ∷ ps) (a ∷ ts) vs

-- IDENT ":" FACTS
pub data IsSection : Section → List Lexeme → List Lexeme → Type 0 where
  section : {x c : Lexeme} {fs : List Fact} {ts us : List Lexeme} → Is sort.Identifier x → IsA class.Colon c → IsFacts fs ts us → IsSection (record { name = x.token; facts = fs }) (x ∷ c ∷ ts) us

-- (IDENT ":" FACTS)*
pub data IsSections : List Section → List Lexeme → List Lexeme → Type 0 where
  no_sections : {ts : List Lexeme} → IsSections [] ts ts
  sections : {x : Section} {xs : List Section} {ts us vs : List Lexeme} → IsSection x ts us → IsSections xs us vs → IsSections (x ∷ xs) ts vs

-- facts that begin with this name are more than the words `premises` and `conclusion` alone
pub data IsBeyond : Lexeme → List Sel → List Att → List Fact → Type 0 where
  other_name : {n : Lexeme} {ss : List Sel} {xs : List Att} {fs : List Fact} → Is sort.SubjectName n → IsBeyond n ss xs fs
  with_sels : {n : Lexeme} {s : Sel} {ss : List Sel} {xs : List Att} {fs : List Fact} → IsBeyond n (s ∷ ss) xs fs
  with_atts : {n : Lexeme} {ss : List Sel} {fs : List Fact} (x : Att) (xs : List Att) → IsBeyond n ss (x ∷ xs) fs
  with_facts : {n : Lexeme} {ss : List Sel} {xs : List Att} {f : Fact} {fs : List Fact} → IsBeyond n ss xs (f ∷ fs)

-- SUBJECT: "premises", "conclusion", "(" TERM ")", or FACTS that are more than one of these words alone
pub data IsSubject : Subject → List Lexeme → List Lexeme → Type 0 where
  premises : {w : Lexeme} {ts : List Lexeme} → IsA class.Premises w → IsSubject VSubject.Premises (w ∷ ts) ts
  conclusion : {w : Lexeme} {ts : List Lexeme} → IsA class.Conclusion w → IsSubject VSubject.Conclusion (w ∷ ts) ts
  subject_term : {a t b : Lexeme} {ts : List Lexeme} → IsA class.Open a → Is sort.Term t → IsA class.Close b → IsSubject (VSubject.Term t.token) (a ∷ t ∷ b ∷ ts) ts
  subject_facts : {n : Lexeme} {ss : List Sel} {xs : List Att} {fs : List Fact} {ts us vs ws : List Lexeme} → Is sort.Name n → IsSels ss ts us → IsOptAtts xs us vs → IsMoreFacts fs vs ws → IsBeyond n ss xs fs → IsSubject (VSubject.Facts (VFact.Fact n.token ss xs ∷ fs)) (n ∷ ts) ws

mutual
  -- METHOD: NAME, "-" or "(" ALT ")", then at most one of "?", "+", "[" NAT? "]"
  pub data IsMethod : MethodText → List Lexeme → List Lexeme → Type 0 where
    method : {m v : MethodText} {ts us vs : List Lexeme} → IsCore m ts us → IsSuffix m v us vs → IsMethod v ts vs

  -- NAME, "-" or "(" ALT ")"
  pub data IsCore : MethodText → List Lexeme → List Lexeme → Type 0 where
    core_name : {n : Lexeme} {ts : List Lexeme} → Is sort.Name n → IsCore (VMethod.Name n.token) (n ∷ ts) ts
    core_dash : {d : Lexeme} {ts : List Lexeme} → IsA class.Minus d → IsCore VMethod.Dash (d ∷ ts) ts
    core_paren : {a b : Lexeme} {m : MethodText} {ts us : List Lexeme} → IsA class.Open a → IsAlt m ts (b ∷ us) → IsA class.Close b → IsCore (VMethod.Paren m) (a ∷ ts) us

  -- at most one of "?", "+", "[" NAT? "]" behind the method m
  pub data IsSuffix : MethodText → MethodText → List Lexeme → List Lexeme → Type 0 where
    no_suffix : {m : MethodText} {ts : List Lexeme} → IsSuffix m m ts ts
    try : {q : Lexeme} {m : MethodText} {ts : List Lexeme} → IsA class.Question q → IsSuffix m (VMethod.Try m) (q ∷ ts) ts
    repeat : {q : Lexeme} {m : MethodText} {ts : List Lexeme} → IsA class.Plus q → IsSuffix m (VMethod.Repeat m) (q ∷ ts) ts
    first : {a b : Lexeme} {n : ℕ} {m : MethodText} {ts us : List Lexeme} → IsA class.Left a → IsOptNat n ts (b ∷ us) → IsA class.Right b → IsSuffix m (VMethod.First m n) (a ∷ ts) us

  -- ALT: SEMI ("|" SEMI)*
  pub data IsAlt : MethodText → List Lexeme → List Lexeme → Type 0 where
    alt : {m v : MethodText} {ts us vs : List Lexeme} → IsSemi m ts us → IsMoreAlt m v us vs → IsAlt v ts vs

  -- ("|" SEMI)* behind the method m
  pub data IsMoreAlt : MethodText → MethodText → List Lexeme → List Lexeme → Type 0 where
    no_bar : {m : MethodText} {ts : List Lexeme} → IsMoreAlt m m ts ts
    bar : {c : Lexeme} {n m v : MethodText} {ts us vs : List Lexeme} → IsA class.Bar c → IsSemi n ts us → IsMoreAlt (VMethod.Or m n) v us vs → IsMoreAlt m v (c ∷ ts) vs

  -- SEMI: SEQ (";" SEQ)*
  pub data IsSemi : MethodText → List Lexeme → List Lexeme → Type 0 where
    semi : {m v : MethodText} {ts us vs : List Lexeme} → IsSeq m ts us → IsMoreSemi m v us vs → IsSemi v ts vs

  -- (";" SEQ)* behind the method m
  pub data IsMoreSemi : MethodText → MethodText → List Lexeme → List Lexeme → Type 0 where
    no_semicolon : {m : MethodText} {ts : List Lexeme} → IsMoreSemi m m ts ts
    semicolon : {c : Lexeme} {n m v : MethodText} {ts us vs : List Lexeme} → IsA class.Semicolon c → IsSeq n ts us → IsMoreSemi (VMethod.On m n) v us vs → IsMoreSemi m v (c ∷ ts) vs

  -- SEQ: ITEM ("," ITEM)*
  pub data IsSeq : MethodText → List Lexeme → List Lexeme → Type 0 where
    seq : {m v : MethodText} {ts us vs : List Lexeme} → IsItem m ts us → IsMoreSeq m v us vs → IsSeq v ts vs

  -- ("," ITEM)* behind the method m
  pub data IsMoreSeq : MethodText → MethodText → List Lexeme → List Lexeme → Type 0 where
    no_comma : {m : MethodText} {ts : List Lexeme} → IsMoreSeq m m ts ts
    comma : {c : Lexeme} {n m v : MethodText} {ts us vs : List Lexeme} → IsA class.Comma c → IsItem n ts us → IsMoreSeq (VMethod.Then m n) v us vs → IsMoreSeq m v (c ∷ ts) vs

  -- ITEM: METHOD or CALL. CALL: a rule method's name and FACTS, MATCH, or another NAME, ARG* and (IDENT ":" FACTS)*, but not the NAME alone
  pub data IsItem : MethodText → List Lexeme → List Lexeme → Type 0 where
    item_method : {m : MethodText} {ts us : List Lexeme} → IsMethod m ts us → IsItem m ts us
    item_rule : {w : Lexeme} {fs : List Fact} {ts us : List Lexeme} → IsA class.Rule w → IsFacts fs ts us → IsItem (VMethod.Rule w.token fs) (w ∷ ts) us
    item_call : {n : Lexeme} {e : Arg} {es : List Arg} {xs : List Section} {ts us vs ws : List Lexeme} → Is sort.CallName n → IsArg e ts us → IsArgs es us vs → IsSections xs vs ws → IsItem (VMethod.Call n.token (e ∷ es) xs) (n ∷ ts) ws
    item_sections : {n : Lexeme} {x : Section} {xs : List Section} {ts us vs : List Lexeme} → Is sort.CallName n → IsSection x ts us → IsSections xs us vs → IsItem (VMethod.Call n.token [] (x ∷ xs)) (n ∷ ts) vs
    item_match : {w : Lexeme} {s : Subject} {cs : List Case} {ts us vs : List Lexeme} → IsA class.Match w → IsSubject s ts us → IsCases cs us vs → IsItem (VMethod.Match s cs) (w ∷ ts) vs

  -- ARG: TERM or "(" ALT ")"
  pub data IsArg : Arg → List Lexeme → List Lexeme → Type 0 where
    arg_term : {t : Lexeme} {ts : List Lexeme} → Is sort.Term t → IsArg (VArg.Term t.token) (t ∷ ts) ts
    arg_method : {a b : Lexeme} {m : MethodText} {ts us : List Lexeme} → IsA class.Open a → IsAlt m ts (b ∷ us) → IsA class.Close b → IsArg (VArg.Method m) (a ∷ ts) us

  -- ARG*
  pub data IsArgs : List Arg → List Lexeme → List Lexeme → Type 0 where
    no_args : {ts : List Lexeme} → IsArgs [] ts ts
    args : {e : Arg} {es : List Arg} {ts us vs : List Lexeme} → IsArg e ts us → IsArgs es us vs → IsArgs (e ∷ es) ts vs

  -- "in" CASE ("\<bar>" CASE)*
  pub data IsCases : List Case → List Lexeme → List Lexeme → Type 0 where
    cases : {w : Lexeme} {c : Case} {cs : List Case} {ts us vs : List Lexeme} → IsA class.In w → IsCase c ts us → IsMoreCases cs us vs → IsCases (c ∷ cs) (w ∷ ts) vs

  -- ("\<bar>" CASE)*
  pub data IsMoreCases : List Case → List Lexeme → List Lexeme → Type 0 where
    no_more_cases : {ts : List Lexeme} → IsMoreCases [] ts ts
    more_cases : {b : Lexeme} {c : Case} {cs : List Case} {ts us vs : List Lexeme} → IsA class.CaseBar b → IsCase c ts us → IsMoreCases cs us vs → IsMoreCases (c ∷ cs) (b ∷ ts) vs

  -- CASE: PAT ("and" PAT)* ("for" VARS)? "=>" and a cartouche that holds an ALT
  pub data IsCase : Case → List Lexeme → List Lexeme → Type 0 where
    case_is : {p : Pattern} {ps : List Pattern} {gs : List VarGroup} {a i o : Lexeme} {m : MethodText} {ts us vs ws ys : List Lexeme} → IsPattern p ts us → IsMorePatterns ps us vs → IsOptFor gs vs (a ∷ i ∷ ws) → IsA class.Arrow a → IsA class.Into i → IsAlt m ws (o ∷ ys) → IsA class.OutOf o → IsCase (VCase.Case (p ∷ ps) gs m) ts ys

-- METHOD?
pub data IsOptMethod : Option MethodText → List Lexeme → List Lexeme → Type 0 where
  no_method : {ts : List Lexeme} → IsOptMethod None ts ts
  a_method : {m : MethodText} {ts us : List Lexeme} → IsMethod m ts us → IsOptMethod (Some m) ts us
