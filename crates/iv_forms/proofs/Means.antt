-- What each part of the table means, in words of the forms.
use Rattle.std.proofs.Common.{◌≡◌, List, [], ◌∷◌, Bool, true, false}
use Rattle.std.specs.Prelude.{Option, ◌⊎◌}
use Rattle.iv_lex.specs.declared.cutting.Token.{Token}
use Rattle.iv_recogniser.specs.declared.class.Class.TheVariants as class
use Rattle.iv_recogniser.specs.declared.class.Sort.{Sort}
use Rattle.iv_recogniser.specs.declared.class.Sort.TheVariants as sort
use Rattle.iv_recogniser.specs.declared.part.Part.{Part}
use Rattle.iv_recogniser.specs.declared.part.Part.TheVariants as P
use Rattle.iv_recogniser.specs.declared.part.Symbol.{Symbol}
use Rattle.iv_recogniser.specs.declared.part.Symbol.TheVariants.{Word, Goes}
use Rattle.iv_recogniser.specs.Class.{has}
use Rattle.iv_forms.specs.declared.fact.Att.{Att}
use Rattle.iv_forms.specs.declared.prop.Label.{Label}
use Rattle.iv_forms.specs.declared.prop.Prop.{Prop}
use Rattle.iv_forms.specs.declared.prop.Group.{Group}
use Rattle.iv_forms.specs.declared.prop.VarGroup.{VarGroup}
use Rattle.iv_forms.specs.declared.method.Section.{Section}
use Rattle.iv_forms.specs.declared.method.MethodText.{MethodText}
use Rattle.iv_forms.specs.declared.method.Arg.{Arg}
use Rattle.iv_forms.specs.declared.command.Parts.{Parts}
use Rattle.iv_forms.specs.declared.lexeme.Lexeme.{Lexeme}
use Rattle.iv_forms.specs.Lexeme.{Is, IsA, AreAll}
use Rattle.iv_forms.specs.FactForm.{IsAtt, IsAtts, IsFact, IsFacts, IsMark, IsMoreAtts, IsMoreFacts, IsMoreSels, IsMoreWheres, IsOptAtts, IsPlaces, IsSel, IsSels, IsTermPlaces}
use Rattle.iv_forms.specs.PropForm.{IsClaim, IsMoreGroups, IsMoreProps, IsMoreVars, IsOfType, IsOptFor, IsOptLabel, IsPatterns, IsProp, IsProps, IsVars}
use Rattle.iv_forms.specs.MethodForm.{IsArg, IsArgs, IsCases, IsCut, IsItem, IsMethod, IsMoreAlt, IsMoreCases, IsMorePatterns, IsMoreSemi, IsMoreSeq, IsOptMethod, IsPattern, IsSection, IsSections, IsSubject, IsSuffix}
use Rattle.iv_forms.specs.CommandForm.{IsAndConsts, IsAssumes, IsAxiom, IsAxiomConsts, IsAxioms, IsConst, IsFix, IsFixes, IsFixity, IsForm, IsJudgmentForm, IsMoreAxioms, IsMoreConsts, IsMoreEquations, IsMoreNotes, IsMoreTvars, IsNotes, IsObtained, IsParts, IsSomeNat, IsStatement, IsTvars}

-- some form reads what stands before
abbrev pub Some_of : {A : Type 0} → (A → List Lexeme → List Lexeme → Type 0) → List Lexeme → List Lexeme → Type 0
Some_of {A = A} R ts us = (v : A) × R v ts us

-- one form and then another
abbrev pub Both_of : {A B : Type 0} → (A → List Lexeme → List Lexeme → Type 0) → (B → List Lexeme → List Lexeme → Type 0) → List Lexeme → List Lexeme → Type 0
Both_of {A = A} {B = B} R S ts us = (v : A) × (w : B) × (mid : List Lexeme) × R v ts mid × S w mid us

-- arguments and sections of a call, one at least
pub data Called : List Lexeme → List Lexeme → Type 0 where
  call_args : {e : Arg} {es : List Arg} {xs : List Section} {ts us vs ws : List Lexeme} → IsArg e ts us → IsArgs es us vs → IsSections xs vs ws → Called ts ws
  call_sections : {x : Section} {xs : List Section} {ts us vs : List Lexeme} → IsSection x ts us → IsSections xs us vs → Called ts vs

-- a statement behind its label
pub data Told : List Lexeme → List Lexeme → Type 0 where
  brief : {p : Prop} {ts us : List Lexeme} → IsProp p ts us → Told ts us
  full : {xs : List VarGroup} {gs : List Group} {w : Lexeme} {p : Prop} {ts us vs ws : List Lexeme} → IsFixes xs ts us → IsAssumes gs us (w ∷ vs) → IsA class.Shows w → IsProp p vs ws → Told ts ws

-- what stands behind identifiers that may be names or propositions
pub data Tail : List Lexeme → List Lexeme → Type 0 where
  prop_tail : {ps : List Prop} {gs : List Group} {ts us vs : List Lexeme} → IsMoreProps ps ts us → IsMoreGroups gs us vs → Tail ts vs
  var_tail : {xs : List Token} {t : Option Token} {vgs : List VarGroup} {w : Lexeme} {gs : List Group} {ts us vs ws ys : List Lexeme} → AreAll sort.Identifier xs ts us → IsOfType t us vs → IsMoreVars vgs vs (w ∷ ws) → IsA class.Where w → IsProps gs ws ys → Tail ts ys

-- a part of `method` that may stand there, or is absent
abbrev pub Lacks : Bool → List Token → Type 0
Lacks true xs = Unit {0}
Lacks false xs = xs ≡ []

-- the parts of `method` that may stand there, and its body
abbrev pub Parts_of : Bool → Bool → Bool → List Lexeme → List Lexeme → Type 0
Parts_of a b c ts us = (p : Parts) × (e : Lexeme) × (m : MethodText) × (mid : List Lexeme) × IsParts p ts (e ∷ mid) × IsA class.Equal e × IsMethod m mid us × Lacks a p.methods × Lacks b p.uses × Lacks c p.declares

-- what a part means; a part that goes on with something, as a function from that
abbrev pub MeansPart : Part → List Lexeme → List Lexeme → Type 0
MeansPart P.Fact ts us = Some_of IsFact ts us
MeansPart P.Facts ts us = Some_of IsFacts ts us
MeansPart P.MoreFacts ts us = Some_of IsMoreFacts ts us
MeansPart P.Sels ts us = Some_of IsSels ts us
MeansPart P.Sel ts us = Some_of IsSel ts us
MeansPart P.SelTo ts us = (n : Lexeme) → Is sort.Numeral n → Some_of IsSel (n ∷ ts) us
MeansPart P.MoreSels ts us = Some_of IsMoreSels ts us
MeansPart P.OptAtts ts us = Some_of IsOptAtts ts us
MeansPart P.MoreAtts ts us = Some_of IsMoreAtts ts us
MeansPart P.Att ts us = Some_of IsAtt ts us
MeansPart P.OptMark ts us = Some_of IsMark ts us
MeansPart P.OfFacts ts us = (w : Lexeme) → IsA class.OfFacts w → Some_of IsAtt (w ∷ ts) us
MeansPart P.FactPlaces ts us = Some_of IsPlaces ts us
MeansPart P.ThenFact ts us = (w : Lexeme) → IsA class.ThenFact w → Some_of IsAtt (w ∷ ts) us
MeansPart P.OfTerms ts us = (w : Lexeme) → IsA class.OfTerms w → Some_of IsAtt (w ∷ ts) us
MeansPart P.TermPlaces ts us = Some_of IsTermPlaces ts us
MeansPart P.MoreWheres ts us = Some_of IsMoreWheres ts us
MeansPart P.Prop ts us = Some_of IsProp ts us
MeansPart P.Pattern ts us = Some_of IsPatterns ts us
MeansPart P.Terms ts us = Some_of (AreAll sort.Term) ts us
MeansPart P.Claim ts us = Some_of IsClaim ts us
MeansPart P.ClaimName ts us = (n : Lexeme) → Is sort.Name n → Some_of IsClaim (n ∷ ts) us
MeansPart P.Props ts us = Some_of IsProps ts us
MeansPart P.PropsName ts us = (n : Lexeme) → Is sort.Name n → Some_of IsProps (n ∷ ts) us
MeansPart P.MoreProps ts us = Both_of IsMoreProps IsMoreGroups ts us
MeansPart P.LabelledTerm ts us = (l : Option Label) × (t : Lexeme) × IsOptLabel l ts (t ∷ us) × Is sort.Term t
MeansPart P.TermName ts us = (n : Lexeme) → Is sort.Name n → (l : Option Label) × (t : Lexeme) × IsOptLabel l (n ∷ ts) (t ∷ us) × Is sort.Term t
MeansPart P.Names ts us = Some_of (AreAll sort.Name) ts us
MeansPart P.Idents ts us = Some_of (AreAll sort.Identifier) ts us
MeansPart P.OfType ts us = Some_of IsOfType ts us
MeansPart P.Vars ts us = Some_of IsVars ts us
MeansPart P.MoreVars ts us = Some_of IsMoreVars ts us
MeansPart P.OptFor ts us = Some_of IsOptFor ts us
MeansPart P.Const ts us = Some_of IsConst ts us
MeansPart P.Fix ts us = Some_of IsFix ts us
MeansPart P.Fixity ts us = Some_of IsFixity ts us
MeansPart P.Method ts us = Some_of IsMethod ts us
MeansPart P.OptMethod ts us = Some_of IsOptMethod ts us
MeansPart P.Suffix ts us = (m : MethodText) → Some_of (IsSuffix m) ts us
MeansPart P.OptNat ts us = Some_of IsSomeNat ts us
MeansPart P.MoreAlt ts us = (m : MethodText) → Some_of (IsMoreAlt m) ts us
MeansPart P.MoreSemi ts us = (m : MethodText) → Some_of (IsMoreSemi m) ts us
MeansPart P.MoreSeq ts us = (m : MethodText) → Some_of (IsMoreSeq m) ts us
MeansPart P.Item ts us = Some_of IsItem ts us
MeansPart P.RuleRest ts us = (w : Lexeme) → IsA class.Rule w → Some_of IsItem (w ∷ ts) us
MeansPart P.CallRest ts us = (n : Lexeme) → Is sort.CallName n → Some_of IsItem (n ∷ ts) us
MeansPart P.CallArgs ts us = Both_of IsArgs IsSections ts us
MeansPart P.CallIdent ts us = (x : Lexeme) → Is sort.Identifier x → Called (x ∷ ts) us
MeansPart P.Sections ts us = Both_of IsMoreFacts IsSections ts us
MeansPart P.SectionIdent ts us = (x : Lexeme) → Is sort.Identifier x → Both_of IsMoreFacts IsSections (x ∷ ts) us
MeansPart P.MatchRest ts us = (w : Lexeme) → IsA class.Match w → Some_of IsItem (w ∷ ts) us
MeansPart P.SubjectName ts us = (w : Lexeme) → IsA class.Premises w ⊎ IsA class.Conclusion w → Some_of IsSubject (w ∷ ts) us
MeansPart P.Cases ts us = Some_of IsCases ts us
MeansPart P.MoreCases ts us = Some_of IsMoreCases ts us
MeansPart P.Pat ts us = Some_of IsPattern ts us
MeansPart P.PatIdent ts us = (x : Lexeme) → Is sort.Identifier x → Some_of IsPattern (x ∷ ts) us
MeansPart P.Cut ts us = Some_of IsCut ts us
MeansPart P.MorePats ts us = Some_of IsMorePatterns ts us
MeansPart P.Typed ts us = (xs : List Token) × (x : Lexeme) × IsTvars xs ts (x ∷ us) × Is sort.Identifier x
MeansPart P.MoreTvars ts us = Some_of IsMoreTvars ts us
MeansPart P.MoreConsts ts us = Some_of IsMoreConsts ts us
MeansPart P.JudgmentForm ts us = IsJudgmentForm ts us
MeansPart P.Axiomatized ts us = Both_of IsAxiomConsts IsAxioms ts us
MeansPart P.AxiomConsts ts us = Both_of IsAndConsts IsAxioms ts us
MeansPart P.Axiom ts us = Some_of IsAxiom ts us
MeansPart P.MoreAxioms ts us = Some_of IsMoreAxioms ts us
MeansPart P.Parts ts us = Parts_of true true true ts us
MeansPart P.UsesDeclares ts us = Parts_of false true true ts us
MeansPart P.MethodsDeclares ts us = Parts_of true false true ts us
MeansPart P.MethodsUses ts us = Parts_of true true false ts us
MeansPart P.MethodsAlone ts us = Parts_of true false false ts us
MeansPart P.UsesAlone ts us = Parts_of false true false ts us
MeansPart P.DeclaresAlone ts us = Parts_of false false true ts us
MeansPart P.Body ts us = Parts_of false false false ts us
MeansPart P.Statement ts us = Some_of IsStatement ts us
MeansPart P.StatementName ts us = (n : Lexeme) → Is sort.Name n → Some_of IsStatement (n ∷ ts) us
MeansPart P.Stated ts us = Told ts us
MeansPart P.OptAssumes ts us = Some_of IsAssumes ts us
MeansPart P.MoreEquations ts us = Some_of IsMoreEquations ts us
MeansPart P.NoteName ts us = (n : Lexeme) → Is sort.Name n → Some_of IsNotes (n ∷ ts) us
MeansPart P.NoteEqual ts us = (n : Lexeme) (xs : List Att) (start : List Lexeme) → Is sort.Name n → IsAtts xs start ts → Some_of IsNotes (n ∷ start) us
MeansPart P.NoteMore ts us = Both_of IsMoreFacts IsMoreNotes ts us
MeansPart P.Obtained ts us = Some_of IsObtained ts us
MeansPart P.ObtainedOne ts us = (x : Lexeme) → Is sort.Identifier x → Some_of IsObtained (x ∷ ts) us
MeansPart P.ObtainedMore ts us = (x : Lexeme) → Is sort.Identifier x → Tail (x ∷ ts) us
MeansPart P.Command ts us = Some_of IsForm ts us

-- what some symbols mean, one behind the other
pub data Means : List Symbol → List Lexeme → List Lexeme → Type 0 where
  end : {ts : List Lexeme} → Means [] ts ts
  token : (t : Lexeme) {k : Sort} {s : List Symbol} {ts us : List Lexeme} → has k t.class ≡ true → Means s ts us → Means (Word k ∷ s) (t ∷ ts) us
  phrase : {p : Part} {s : List Symbol} {ts us vs : List Lexeme} → MeansPart p ts us → Means s us vs → Means (Goes p ∷ s) ts vs
