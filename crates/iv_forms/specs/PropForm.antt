-- Labels, propositions and names: what tokens are read as which value. `IsR v ts us`: the tokens ts begin with the form R of the value v, and us stand behind it.
-- After the outer syntax of Isabelle's Reference Manual, in a profile of this project. Written by tools/outer_forms.py from tools/readings.txt.
use Rattle.std.specs.Prelude.{List, [], ◌∷◌, Option, Some, None}
use Rattle.iv_lex.specs.declared.cutting.Token.{Token}
use Rattle.iv_recogniser.specs.declared.class.Class.TheVariants as class
use Rattle.iv_recogniser.specs.declared.class.Sort.TheVariants as sort
use Rattle.iv_forms.specs.declared.fact.Att.{Att}
use Rattle.iv_forms.specs.declared.prop.Label.{Label}
use Rattle.iv_forms.specs.declared.prop.Prop.{Prop}
use Rattle.iv_forms.specs.declared.prop.Claim.{Claim}
use Rattle.iv_forms.specs.declared.prop.Group.{Group}
use Rattle.iv_forms.specs.declared.prop.VarGroup.{VarGroup}
use Rattle.iv_forms.specs.declared.lexeme.Lexeme.{Lexeme}
use Rattle.iv_forms.specs.Lexeme.{Is, IsA, AreAll}
use Rattle.iv_forms.specs.FactForm.{IsOptAtts, IsAtts}

-- LABEL: NAME ATTS? ":", or ATTS ":"
pub data IsLabel : Label → List Lexeme → List Lexeme → Type 0 where
  named_label : {n c : Lexeme} {xs : List Att} {ts us : List Lexeme} → Is sort.Name n → IsOptAtts xs ts (c ∷ us) → IsA class.Colon c → IsLabel (record { name = Some n.token; atts = xs }) (n ∷ ts) us
  bare_label : {xs : List Att} {c : Lexeme} {ts us : List Lexeme} → IsAtts xs ts (c ∷ us) → IsA class.Colon c → IsLabel (record { name = None; atts = xs }) ts us

-- LABEL?
pub data IsOptLabel : Option Label → List Lexeme → List Lexeme → Type 0 where
  no_label : {ts : List Lexeme} → IsOptLabel None ts ts
  a_label : {l : Label} {ts us : List Lexeme} → IsLabel l ts us → IsOptLabel (Some l) ts us

-- ("(" "is" TERM+ ")")?
pub data IsPatterns : List Token → List Lexeme → List Lexeme → Type 0 where
  no_patterns : {ts : List Lexeme} → IsPatterns [] ts ts
  patterns : {a w t b : Lexeme} {xs : List Token} {ts us : List Lexeme} → IsA class.Open a → IsA class.Is w → Is sort.Term t → AreAll sort.Term xs ts (b ∷ us) → IsA class.Close b → IsPatterns (t.token ∷ xs) (a ∷ w ∷ t ∷ ts) us

-- PROP: TERM ("(" "is" TERM+ ")")?
pub data IsProp : Prop → List Lexeme → List Lexeme → Type 0 where
  prop : {t : Lexeme} {ps : List Token} {ts us : List Lexeme} → Is sort.Term t → IsPatterns ps ts us → IsProp (record { term = t.token; patterns = ps }) (t ∷ ts) us

-- LABEL? PROP
pub data IsClaim : Claim → List Lexeme → List Lexeme → Type 0 where
  claim : {l : Option Label} {p : Prop} {ts us vs : List Lexeme} → IsOptLabel l ts us → IsProp p us vs → IsClaim (record { label = l; prop = p }) ts vs

-- PROP*
pub data IsMoreProps : List Prop → List Lexeme → List Lexeme → Type 0 where
  no_more_props : {ts : List Lexeme} → IsMoreProps [] ts ts
  more_props : {p : Prop} {ps : List Prop} {ts us vs : List Lexeme} → IsProp p ts us → IsMoreProps ps us vs → IsMoreProps (p ∷ ps) ts vs

-- LABEL? PROP+
pub data IsGroup : Group → List Lexeme → List Lexeme → Type 0 where
  group : {l : Option Label} {p : Prop} {ps : List Prop} {ts us vs ws : List Lexeme} → IsOptLabel l ts us → IsProp p us vs → IsMoreProps ps vs ws → IsGroup (record { label = l; props = p ∷ ps }) ts ws

-- ("and" LABEL? PROP+)*
pub data IsMoreGroups : List Group → List Lexeme → List Lexeme → Type 0 where
  no_more_groups : {ts : List Lexeme} → IsMoreGroups [] ts ts
  more_groups : {a : Lexeme} {g : Group} {gs : List Group} {ts us vs : List Lexeme} → IsA class.And a → IsGroup g ts us → IsMoreGroups gs us vs → IsMoreGroups (g ∷ gs) (a ∷ ts) vs

-- PROPS: LABEL? PROP+ ("and" LABEL? PROP+)*
pub data IsProps : List Group → List Lexeme → List Lexeme → Type 0 where
  props : {g : Group} {gs : List Group} {ts us vs : List Lexeme} → IsGroup g ts us → IsMoreGroups gs us vs → IsProps (g ∷ gs) ts vs

-- ("::" TYPE)?
pub data IsOfType : Option Token → List Lexeme → List Lexeme → Type 0 where
  no_type : {ts : List Lexeme} → IsOfType None ts ts
  of_type : {c t : Lexeme} {ts : List Lexeme} → IsA class.Colons c → Is sort.Type t → IsOfType (Some t.token) (c ∷ t ∷ ts) ts

-- IDENT+ ("::" TYPE)?
pub data IsVarGroup : VarGroup → List Lexeme → List Lexeme → Type 0 where
  var_group : {x : Lexeme} {xs : List Token} {t : Option Token} {ts us vs : List Lexeme} → Is sort.Identifier x → AreAll sort.Identifier xs ts us → IsOfType t us vs → IsVarGroup (record { names = x.token ∷ xs; typ = t }) (x ∷ ts) vs

-- ("and" IDENT+ ("::" TYPE)?)*
pub data IsMoreVars : List VarGroup → List Lexeme → List Lexeme → Type 0 where
  no_more_vars : {ts : List Lexeme} → IsMoreVars [] ts ts
  more_vars : {a : Lexeme} {g : VarGroup} {gs : List VarGroup} {ts us vs : List Lexeme} → IsA class.And a → IsVarGroup g ts us → IsMoreVars gs us vs → IsMoreVars (g ∷ gs) (a ∷ ts) vs

-- VARS: IDENT+ ("::" TYPE)? ("and" IDENT+ ("::" TYPE)?)*
pub data IsVars : List VarGroup → List Lexeme → List Lexeme → Type 0 where
  vars : {g : VarGroup} {gs : List VarGroup} {ts us vs : List Lexeme} → IsVarGroup g ts us → IsMoreVars gs us vs → IsVars (g ∷ gs) ts vs

-- ("for" VARS)?
pub data IsOptFor : List VarGroup → List Lexeme → List Lexeme → Type 0 where
  no_for : {ts : List Lexeme} → IsOptFor [] ts ts
  for_vars : {w : Lexeme} {gs : List VarGroup} {ts us : List Lexeme} → IsA class.For w → IsVars gs ts us → IsOptFor gs (w ∷ ts) us
