-- Commands: what tokens are read as which value. `IsR v ts us`: the tokens ts begin with the form R of the value v, and us stand behind it.
-- After the outer syntax of Isabelle's Reference Manual, in a profile of this project. Written by tools/outer_forms.py from tools/readings.txt.
use Rattle.std.specs.Prelude.{◌≡◌, ℕ, List, [], ◌∷◌, Option, Some, None}
use Rattle.iv_lex.specs.declared.cutting.Token.{Token}
use Rattle.iv_recogniser.specs.declared.class.Class.TheVariants as class
use Rattle.iv_recogniser.specs.declared.class.Sort.TheVariants as sort
use Rattle.iv_forms.specs.declared.fact.Fact.{Fact}
use Rattle.iv_forms.specs.declared.fact.Att.{Att}
use Rattle.iv_forms.specs.declared.prop.Label.{Label}
use Rattle.iv_forms.specs.declared.prop.Prop.{Prop}
use Rattle.iv_forms.specs.declared.prop.Claim.{Claim}
use Rattle.iv_forms.specs.declared.prop.Group.{Group}
use Rattle.iv_forms.specs.declared.prop.VarGroup.{VarGroup}
use Rattle.iv_forms.specs.declared.method.MethodText.{MethodText}
use Rattle.iv_forms.specs.declared.command.Fixity.{Fixity}
use Rattle.iv_forms.specs.declared.command.Fixity.TheVariants as VFixity
use Rattle.iv_forms.specs.declared.command.Constant.{Constant}
use Rattle.iv_forms.specs.declared.command.Axiom.{Axiom}
use Rattle.iv_forms.specs.declared.command.Statement.{Statement}
use Rattle.iv_forms.specs.declared.command.Statement.TheVariants as VStatement
use Rattle.iv_forms.specs.declared.command.Parts.{Parts}
use Rattle.iv_forms.specs.declared.command.NoteGroup.{NoteGroup}
use Rattle.iv_forms.specs.declared.command.Equation.{Equation}
use Rattle.iv_forms.specs.declared.command.Obtained.{Obtained}
use Rattle.iv_forms.specs.declared.command.Body.{Body}
use Rattle.iv_forms.specs.declared.command.Body.TheVariants as VBody
use Rattle.iv_forms.specs.declared.lexeme.Lexeme.{Lexeme}
use Rattle.iv_forms.specs.Lexeme.{Is, IsA, AreAll}
use Rattle.iv_forms.specs.FactForm.{IsOptAtts, IsFacts}
use Rattle.iv_forms.specs.PropForm.{IsOptLabel, IsProp, IsClaim, IsProps, IsOfType, IsVars, IsOptFor}
use Rattle.iv_forms.specs.MethodForm.{IsMethod, IsOptMethod}

-- NAT?
pub data IsSomeNat : Option ℕ → List Lexeme → List Lexeme → Type 0 where
  none_given : {ts : List Lexeme} → IsSomeNat None ts ts
  one_given : {n : Lexeme} {ts : List Lexeme} → Is sort.Numeral n → IsSomeNat (Some n.number) (n ∷ ts) ts

-- FIX inside its parentheses
pub data IsFixity : Fixity → List Lexeme → List Lexeme → Type 0 where
  plain : {s : Lexeme} {ts : List Lexeme} → IsA class.Plain s → IsFixity (VFixity.Plain s.token) (s ∷ ts) ts
  prefix : {s a n b m : Lexeme} {ts : List Lexeme} → IsA class.Prefix s → IsA class.Left a → Is sort.Priority n → IsA class.Right b → Is sort.Priority m → IsFixity (VFixity.Prefix s.token n.number m.number) (s ∷ a ∷ n ∷ b ∷ m ∷ ts) ts
  infix_is : {w s n : Lexeme} {ts : List Lexeme} → IsA class.Infix w → IsA class.Plain s → IsA class.Low n → IsFixity (VFixity.Infix s.token n.number) (w ∷ s ∷ n ∷ ts) ts
  infixl_is : {w s n : Lexeme} {ts : List Lexeme} → IsA class.Infixl w → IsA class.Plain s → IsA class.Low n → IsFixity (VFixity.Infixl s.token n.number) (w ∷ s ∷ n ∷ ts) ts
  infixr_is : {w s n : Lexeme} {ts : List Lexeme} → IsA class.Infixr w → IsA class.Plain s → IsA class.Low n → IsFixity (VFixity.Infixr s.token n.number) (w ∷ s ∷ n ∷ ts) ts
  binder : {w s n : Lexeme} {ts : List Lexeme} → IsA class.Binder w → Is sort.Binding s → Is sort.Priority n → IsFixity (VFixity.Binder s.token n.number) (w ∷ s ∷ n ∷ ts) ts

-- FIX?
pub data IsFix : Fixity → List Lexeme → List Lexeme → Type 0 where
  no_fix : {ts : List Lexeme} → IsFix VFixity.None ts ts
  fix_is : {a b : Lexeme} {f : Fixity} {ts us : List Lexeme} → IsA class.Open a → IsFixity f ts (b ∷ us) → IsA class.Close b → IsFix f (a ∷ ts) us

-- CONST: IDENT "::" TYPE FIX?
pub data IsConst : Constant → List Lexeme → List Lexeme → Type 0 where
  const : {x c t : Lexeme} {f : Fixity} {ts us : List Lexeme} → Is sort.Identifier x → IsA class.Colons c → Is sort.Type t → IsFix f ts us → IsConst (record { name = x.token; typ = t.token; fixity = f }) (x ∷ c ∷ t ∷ ts) us

-- CONST*
pub data IsMoreConsts : List Constant → List Lexeme → List Lexeme → Type 0 where
  no_more_consts : {ts : List Lexeme} → IsMoreConsts [] ts ts
  more_consts : {x : Constant} {xs : List Constant} {ts us vs : List Lexeme} → IsConst x ts us → IsMoreConsts xs us vs → IsMoreConsts (x ∷ xs) ts vs

-- ("and" CONST)*
pub data IsAndConsts : List Constant → List Lexeme → List Lexeme → Type 0 where
  no_and_consts : {ts : List Lexeme} → IsAndConsts [] ts ts
  and_consts : {a : Lexeme} {x : Constant} {xs : List Constant} {ts us vs : List Lexeme} → IsA class.And a → IsConst x ts us → IsAndConsts xs us vs → IsAndConsts (x ∷ xs) (a ∷ ts) vs

-- (CONST ("and" CONST)*)?
pub data IsAxiomConsts : List Constant → List Lexeme → List Lexeme → Type 0 where
  no_axiom_consts : {ts : List Lexeme} → IsAxiomConsts [] ts ts
  axiom_consts : {x : Constant} {xs : List Constant} {ts us vs : List Lexeme} → IsConst x ts us → IsAndConsts xs us vs → IsAxiomConsts (x ∷ xs) ts vs

-- AXIOM: NAME ATTS? ":" TERM
pub data IsAxiom : Axiom → List Lexeme → List Lexeme → Type 0 where
  axiom_is : {n c t : Lexeme} {xs : List Att} {ts us : List Lexeme} → Is sort.Name n → IsOptAtts xs ts (c ∷ t ∷ us) → IsA class.Colon c → Is sort.Term t → IsAxiom (record { name = n.token; atts = xs; term = t.token }) (n ∷ ts) us

-- ("and" AXIOM)*
pub data IsMoreAxioms : List Axiom → List Lexeme → List Lexeme → Type 0 where
  no_more_axioms : {ts : List Lexeme} → IsMoreAxioms [] ts ts
  more_axioms : {a : Lexeme} {x : Axiom} {xs : List Axiom} {ts us vs : List Lexeme} → IsA class.And a → IsAxiom x ts us → IsMoreAxioms xs us vs → IsMoreAxioms (x ∷ xs) (a ∷ ts) vs

-- ("where" AXIOM ("and" AXIOM)*)?
pub data IsAxioms : List Axiom → List Lexeme → List Lexeme → Type 0 where
  no_axioms : {ts : List Lexeme} → IsAxioms [] ts ts
  axioms : {w : Lexeme} {x : Axiom} {xs : List Axiom} {ts us vs : List Lexeme} → IsA class.Where w → IsAxiom x ts us → IsMoreAxioms xs us vs → IsAxioms (x ∷ xs) (w ∷ ts) vs

-- ("," TVAR)*
pub data IsMoreTvars : List Token → List Lexeme → List Lexeme → Type 0 where
  no_more_tvars : {ts : List Lexeme} → IsMoreTvars [] ts ts
  more_tvars : {c v : Lexeme} {xs : List Token} {ts us : List Lexeme} → IsA class.Comma c → IsA class.Tvar v → IsMoreTvars xs ts us → IsMoreTvars (v.token ∷ xs) (c ∷ v ∷ ts) us

-- (TVAR or "(" TVAR ("," TVAR)* ")")?
pub data IsTvars : List Token → List Lexeme → List Lexeme → Type 0 where
  no_tvars : {ts : List Lexeme} → IsTvars [] ts ts
  one_tvar : {v : Lexeme} {ts : List Lexeme} → IsA class.Tvar v → IsTvars (v.token ∷ []) (v ∷ ts) ts
  tvars : {a v b : Lexeme} {xs : List Token} {ts us : List Lexeme} → IsA class.Open a → IsA class.Tvar v → IsMoreTvars xs ts (b ∷ us) → IsA class.Close b → IsTvars (v.token ∷ xs) (a ∷ v ∷ ts) us

-- ("(" STRING NAT ")")?
pub data IsJudgmentForm : List Lexeme → List Lexeme → Type 0 where
  no_judgment_form : {ts : List Lexeme} → IsJudgmentForm ts ts
  judgment_form : {a s n b : Lexeme} {ts : List Lexeme} → IsA class.Open a → IsA class.Judging s → Is sort.Priority n → IsA class.Close b → IsJudgmentForm (a ∷ s ∷ n ∷ b ∷ ts) ts

-- the parts of `method`, each at most once and in any order
pub data IsParts : Parts → List Lexeme → List Lexeme → Type 0 where
  no_parts : {ts : List Lexeme} → IsParts (record { methods = []; uses = []; declares = [] }) ts ts
  methods_part : {w x : Lexeme} {xs : List Token} {p : Parts} {ts us vs : List Lexeme} → IsA class.Methods w → Is sort.Identifier x → AreAll sort.Identifier xs ts us → IsParts p us vs → (p.methods ≡ []) → IsParts (record { methods = x.token ∷ xs; uses = p.uses; declares = p.declares }) (w ∷ x ∷ ts) vs
  uses_part : {w x : Lexeme} {xs : List Token} {p : Parts} {ts us vs : List Lexeme} → IsA class.Uses w → Is sort.Identifier x → AreAll sort.Identifier xs ts us → IsParts p us vs → (p.uses ≡ []) → IsParts (record { methods = p.methods; uses = x.token ∷ xs; declares = p.declares }) (w ∷ x ∷ ts) vs
  declares_part : {w x : Lexeme} {xs : List Token} {p : Parts} {ts us vs : List Lexeme} → IsA class.Declares w → Is sort.Identifier x → AreAll sort.Identifier xs ts us → IsParts p us vs → (p.declares ≡ []) → IsParts (record { methods = p.methods; uses = p.uses; declares = x.token ∷ xs }) (w ∷ x ∷ ts) vs

-- ("fixes" VARS)?
pub data IsFixes : List VarGroup → List Lexeme → List Lexeme → Type 0 where
  no_fixes : {ts : List Lexeme} → IsFixes [] ts ts
  fixes : {w : Lexeme} {gs : List VarGroup} {ts us : List Lexeme} → IsA class.Fixes w → IsVars gs ts us → IsFixes gs (w ∷ ts) us

-- ("assumes" PROPS)?
pub data IsAssumes : List Group → List Lexeme → List Lexeme → Type 0 where
  no_assumes : {ts : List Lexeme} → IsAssumes [] ts ts
  assumes : {w : Lexeme} {gs : List Group} {ts us : List Lexeme} → IsA class.Assumes w → IsProps gs ts us → IsAssumes gs (w ∷ ts) us

-- LABEL? PROP, or LABEL? ("fixes" VARS)? ("assumes" PROPS)? "shows" PROP
pub data IsStatement : Statement → List Lexeme → List Lexeme → Type 0 where
  short : {l : Option Label} {p : Prop} {ts us vs : List Lexeme} → IsOptLabel l ts us → IsProp p us vs → IsStatement (VStatement.Short l p) ts vs
  long : {l : Option Label} {xs : List VarGroup} {gs : List Group} {w : Lexeme} {p : Prop} {ts us vs ws ys : List Lexeme} → IsOptLabel l ts us → IsFixes xs us vs → IsAssumes gs vs (w ∷ ws) → IsA class.Shows w → IsProp p ws ys → IsStatement (VStatement.Long l xs gs p) ts ys

-- LABELNAME "=" FACTS, with LABELNAME a NAME ATTS?
pub data IsNoteGroup : NoteGroup → List Lexeme → List Lexeme → Type 0 where
  note_group : {n e : Lexeme} {xs : List Att} {fs : List Fact} {ts us vs : List Lexeme} → Is sort.Name n → IsOptAtts xs ts (e ∷ us) → IsA class.Equal e → IsFacts fs us vs → IsNoteGroup (record { name = Some n.token; atts = xs; facts = fs }) (n ∷ ts) vs

-- ("and" LABELNAME "=" FACTS)*
pub data IsMoreNotes : List NoteGroup → List Lexeme → List Lexeme → Type 0 where
  no_more_notes : {ts : List Lexeme} → IsMoreNotes [] ts ts
  more_notes : {a : Lexeme} {g : NoteGroup} {gs : List NoteGroup} {ts us vs : List Lexeme} → IsA class.And a → IsNoteGroup g ts us → IsMoreNotes gs us vs → IsMoreNotes (g ∷ gs) (a ∷ ts) vs

-- (LABELNAME "=")? FACTS ("and" LABELNAME "=" FACTS)*
pub data IsNotes : List NoteGroup → List Lexeme → List Lexeme → Type 0 where
  named_notes : {g : NoteGroup} {gs : List NoteGroup} {ts us vs : List Lexeme} → IsNoteGroup g ts us → IsMoreNotes gs us vs → IsNotes (g ∷ gs) ts vs
  bare_notes : {fs : List Fact} {gs : List NoteGroup} {ts us vs : List Lexeme} → IsFacts fs ts us → IsMoreNotes gs us vs → IsNotes (record { name = None; atts = []; facts = fs } ∷ gs) ts vs

-- TERM "=" TERM
pub data IsEquation : Equation → List Lexeme → List Lexeme → Type 0 where
  equation : {p e t : Lexeme} {ts : List Lexeme} → Is sort.Term p → IsA class.Equal e → Is sort.Term t → IsEquation (record { pattern = p.token; term = t.token }) (p ∷ e ∷ t ∷ ts) ts

-- ("and" TERM "=" TERM)*
pub data IsMoreEquations : List Equation → List Lexeme → List Lexeme → Type 0 where
  no_more_equations : {ts : List Lexeme} → IsMoreEquations [] ts ts
  more_equations : {a : Lexeme} {x : Equation} {xs : List Equation} {ts us vs : List Lexeme} → IsA class.And a → IsEquation x ts us → IsMoreEquations xs us vs → IsMoreEquations (x ∷ xs) (a ∷ ts) vs

-- (VARS "where")? PROPS
pub data IsObtained : Obtained → List Lexeme → List Lexeme → Type 0 where
  obtained_props : {gs : List Group} {ts us : List Lexeme} → IsProps gs ts us → IsObtained (record { names = []; props = gs }) ts us
  obtained_names : {xs : List VarGroup} {w : Lexeme} {gs : List Group} {ts us vs : List Lexeme} → IsVars xs ts (w ∷ us) → IsA class.Where w → IsProps gs us vs → IsObtained (record { names = xs; props = gs }) ts vs

-- the commands
pub data IsForm : Body → List Lexeme → List Lexeme → Type 0 where
  theory : {w n i m b : Lexeme} {xs : List Token} {ts us : List Lexeme} → IsA class.Theory w → Is sort.Name n → IsA class.Imports i → Is sort.Name m → AreAll sort.Name xs ts (b ∷ us) → IsA class.Begin b → IsForm (VBody.Theory n.token (m.token ∷ xs)) (w ∷ n ∷ i ∷ m ∷ ts) us
  end_ : {w : Lexeme} {ts : List Lexeme} → IsA class.End w → IsForm VBody.End (w ∷ ts) ts
  chapter : {w q : Lexeme} {ts : List Lexeme} → IsA class.Chapter w → Is sort.Quoted q → IsForm (VBody.Chapter q.token) (w ∷ q ∷ ts) ts
  section_ : {w q : Lexeme} {ts : List Lexeme} → IsA class.Section w → Is sort.Quoted q → IsForm (VBody.Section q.token) (w ∷ q ∷ ts) ts
  subsection : {w q : Lexeme} {ts : List Lexeme} → IsA class.Subsection w → Is sort.Quoted q → IsForm (VBody.Subsection q.token) (w ∷ q ∷ ts) ts
  subsubsection : {w q : Lexeme} {ts : List Lexeme} → IsA class.Subsubsection w → Is sort.Quoted q → IsForm (VBody.Subsubsection q.token) (w ∷ q ∷ ts) ts
  paragraph : {w q : Lexeme} {ts : List Lexeme} → IsA class.Paragraph w → Is sort.Quoted q → IsForm (VBody.Paragraph q.token) (w ∷ q ∷ ts) ts
  subparagraph : {w q : Lexeme} {ts : List Lexeme} → IsA class.Subparagraph w → Is sort.Quoted q → IsForm (VBody.Subparagraph q.token) (w ∷ q ∷ ts) ts
  prose : {w q : Lexeme} {ts : List Lexeme} → IsA class.Prose w → Is sort.Quoted q → IsForm (VBody.Prose q.token) (w ∷ q ∷ ts) ts
  txt : {w q : Lexeme} {ts : List Lexeme} → IsA class.Txt w → Is sort.Quoted q → IsForm (VBody.Txt q.token) (w ∷ q ∷ ts) ts
  typedecl : {w x : Lexeme} {xs : List Token} {ts us : List Lexeme} → IsA class.Typedecl w → IsTvars xs ts (x ∷ us) → Is sort.Identifier x → IsForm (VBody.Typedecl xs x.token) (w ∷ ts) us
  consts : {w : Lexeme} {x : Constant} {xs : List Constant} {ts us vs : List Lexeme} → IsA class.Consts w → IsConst x ts us → IsMoreConsts xs us vs → IsForm (VBody.Consts (x ∷ xs)) (w ∷ ts) vs
  judgment : {w x c t : Lexeme} {ts us : List Lexeme} → IsA class.Judgment w → Is sort.Identifier x → IsA class.Colons c → Is sort.Type t → IsJudgmentForm ts us → IsForm (VBody.Judgment x.token t.token) (w ∷ x ∷ c ∷ t ∷ ts) us
  axiomatization : {w : Lexeme} {cs : List Constant} {xs : List Axiom} {ts us vs : List Lexeme} → IsA class.Axiomatization w → IsAxiomConsts cs ts us → IsAxioms xs us vs → IsForm (VBody.Axiomatization cs xs) (w ∷ ts) vs
  lemmas : {w n e : Lexeme} {xs : List Att} {fs : List Fact} {ts us vs : List Lexeme} → IsA class.Lemmas w → Is sort.Name n → IsOptAtts xs ts (e ∷ us) → IsA class.Equal e → IsFacts fs us vs → IsForm (VBody.Lemmas n.token xs fs) (w ∷ n ∷ ts) vs
  declare : {w : Lexeme} {fs : List Fact} {ts us : List Lexeme} → IsA class.Declare w → IsFacts fs ts us → IsForm (VBody.Declare fs) (w ∷ ts) us
  named_theorems : {w x : Lexeme} {ts : List Lexeme} → IsA class.NamedTheorems w → Is sort.Identifier x → IsForm (VBody.NamedTheorems x.token) (w ∷ x ∷ ts) ts
  method_ : {w x e : Lexeme} {gs : List VarGroup} {p : Parts} {m : MethodText} {ts us vs ws : List Lexeme} → IsA class.Method w → Is sort.Identifier x → IsOptFor gs ts us → IsParts p us (e ∷ vs) → IsA class.Equal e → IsMethod m vs ws → IsForm (VBody.Method x.token gs p m) (w ∷ x ∷ ts) ws
  lemma_ : {w : Lexeme} {s : Statement} {ts us : List Lexeme} → IsA class.Lemma w → IsStatement s ts us → IsForm (VBody.Lemma s) (w ∷ ts) us
  theorem_ : {w : Lexeme} {s : Statement} {ts us : List Lexeme} → IsA class.Theorem w → IsStatement s ts us → IsForm (VBody.Theorem s) (w ∷ ts) us
  corollary : {w : Lexeme} {s : Statement} {ts us : List Lexeme} → IsA class.Corollary w → IsStatement s ts us → IsForm (VBody.Corollary s) (w ∷ ts) us
  proposition : {w : Lexeme} {s : Statement} {ts us : List Lexeme} → IsA class.Proposition w → IsStatement s ts us → IsForm (VBody.Proposition s) (w ∷ ts) us
  fix : {w : Lexeme} {gs : List VarGroup} {ts us : List Lexeme} → IsA class.Fix w → IsVars gs ts us → IsForm (VBody.Fix gs) (w ∷ ts) us
  assume : {w : Lexeme} {gs : List Group} {ts us : List Lexeme} → IsA class.Assume w → IsProps gs ts us → IsForm (VBody.Assume gs) (w ∷ ts) us
  presume : {w : Lexeme} {gs : List Group} {ts us : List Lexeme} → IsA class.Presume w → IsProps gs ts us → IsForm (VBody.Presume gs) (w ∷ ts) us
  define : {w x h b : Lexeme} {t : Option Token} {l : Option Label} {ts us vs : List Lexeme} → IsA class.Define w → Is sort.Identifier x → IsOfType t ts (h ∷ us) → IsA class.Where h → IsOptLabel l us (b ∷ vs) → Is sort.Term b → IsForm (VBody.Define x.token t l b.token) (w ∷ x ∷ ts) vs
  note : {w : Lexeme} {gs : List NoteGroup} {ts us : List Lexeme} → IsA class.Note w → IsNotes gs ts us → IsForm (VBody.Note gs) (w ∷ ts) us
  let_ : {w : Lexeme} {x : Equation} {xs : List Equation} {ts us vs : List Lexeme} → IsA class.Let w → IsEquation x ts us → IsMoreEquations xs us vs → IsForm (VBody.Let (x ∷ xs)) (w ∷ ts) vs
  left_brace : {w : Lexeme} {ts : List Lexeme} → IsA class.LeftBrace w → IsForm VBody.LeftBrace (w ∷ ts) ts
  right_brace : {w : Lexeme} {ts : List Lexeme} → IsA class.RightBrace w → IsForm VBody.RightBrace (w ∷ ts) ts
  next_ : {w : Lexeme} {ts : List Lexeme} → IsA class.Next w → IsForm VBody.Next (w ∷ ts) ts
  then_ : {w : Lexeme} {ts : List Lexeme} → IsA class.Then w → IsForm VBody.Then (w ∷ ts) ts
  from : {w : Lexeme} {fs : List Fact} {ts us : List Lexeme} → IsA class.From w → IsFacts fs ts us → IsForm (VBody.From fs) (w ∷ ts) us
  with_ : {w : Lexeme} {fs : List Fact} {ts us : List Lexeme} → IsA class.With w → IsFacts fs ts us → IsForm (VBody.With fs) (w ∷ ts) us
  have : {w : Lexeme} {c : Claim} {ts us : List Lexeme} → IsA class.Have w → IsClaim c ts us → IsForm (VBody.Have c) (w ∷ ts) us
  show : {w : Lexeme} {c : Claim} {ts us : List Lexeme} → IsA class.Show w → IsClaim c ts us → IsForm (VBody.Show c) (w ∷ ts) us
  hence : {w : Lexeme} {c : Claim} {ts us : List Lexeme} → IsA class.Hence w → IsClaim c ts us → IsForm (VBody.Hence c) (w ∷ ts) us
  thus : {w : Lexeme} {c : Claim} {ts us : List Lexeme} → IsA class.Thus w → IsClaim c ts us → IsForm (VBody.Thus c) (w ∷ ts) us
  obtain : {w : Lexeme} {o : Obtained} {ts us : List Lexeme} → IsA class.Obtain w → IsObtained o ts us → IsForm (VBody.Obtain o) (w ∷ ts) us
  also : {w : Lexeme} {ts : List Lexeme} → IsA class.Also w → IsForm VBody.Also (w ∷ ts) ts
  moreover : {w : Lexeme} {ts : List Lexeme} → IsA class.Moreover w → IsForm VBody.Moreover (w ∷ ts) ts
  finally : {w : Lexeme} {ts : List Lexeme} → IsA class.Finally w → IsForm VBody.Finally (w ∷ ts) ts
  ultimately : {w : Lexeme} {ts : List Lexeme} → IsA class.Ultimately w → IsForm VBody.Ultimately (w ∷ ts) ts
  apply : {w : Lexeme} {m : MethodText} {ts us : List Lexeme} → IsA class.Apply w → IsMethod m ts us → IsForm (VBody.Apply m) (w ∷ ts) us
  using_ : {w : Lexeme} {fs : List Fact} {ts us : List Lexeme} → IsA class.Using w → IsFacts fs ts us → IsForm (VBody.Using fs) (w ∷ ts) us
  defer : {w : Lexeme} {n : Option ℕ} {ts us : List Lexeme} → IsA class.Defer w → IsSomeNat n ts us → IsForm (VBody.Defer n) (w ∷ ts) us
  prefer : {w n : Lexeme} {ts : List Lexeme} → IsA class.Prefer w → Is sort.Numeral n → IsForm (VBody.Prefer n.number) (w ∷ n ∷ ts) ts
  back : {w : Lexeme} {ts : List Lexeme} → IsA class.Back w → IsForm VBody.Back (w ∷ ts) ts
  proof : {w : Lexeme} {m : Option MethodText} {ts us : List Lexeme} → IsA class.Proof w → IsOptMethod m ts us → IsForm (VBody.Proof m) (w ∷ ts) us
  qed : {w : Lexeme} {m : Option MethodText} {ts us : List Lexeme} → IsA class.Qed w → IsOptMethod m ts us → IsForm (VBody.Qed m) (w ∷ ts) us
  by : {w : Lexeme} {m : MethodText} {n : Option MethodText} {ts us vs : List Lexeme} → IsA class.By w → IsMethod m ts us → IsOptMethod n us vs → IsForm (VBody.By m n) (w ∷ ts) vs
  dot : {w : Lexeme} {ts : List Lexeme} → IsA class.Dot w → IsForm VBody.Dot (w ∷ ts) ts
  dots : {w : Lexeme} {ts : List Lexeme} → IsA class.Dots w → IsForm VBody.Dots (w ∷ ts) ts
  done_ : {w : Lexeme} {ts : List Lexeme} → IsA class.Done w → IsForm VBody.Done (w ∷ ts) ts
  oops : {w : Lexeme} {ts : List Lexeme} → IsA class.Oops w → IsForm VBody.Oops (w ∷ ts) ts
