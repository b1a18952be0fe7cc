-- Selections, attributes and facts: what tokens are read as which value. `IsR v ts us`: the tokens ts begin with the form R of the value v, and us stand behind it.
-- After the outer syntax of Isabelle's Reference Manual, in a profile of this project. Written by tools/outer_forms.py from tools/readings.txt.
use Rattle.std.specs.Prelude.{List, [], ◌∷◌}
use Rattle.iv_recogniser.specs.declared.class.Class.TheVariants as class
use Rattle.iv_recogniser.specs.declared.class.Sort.TheVariants as sort
use Rattle.iv_forms.specs.declared.fact.Sel.{Sel}
use Rattle.iv_forms.specs.declared.fact.Sel.TheVariants as VSel
use Rattle.iv_forms.specs.declared.fact.Mark.{Mark}
use Rattle.iv_forms.specs.declared.fact.Mark.TheVariants as VMark
use Rattle.iv_forms.specs.declared.fact.Where.{Where}
use Rattle.iv_forms.specs.declared.fact.TermPlace.{TermPlace}
use Rattle.iv_forms.specs.declared.fact.TermPlace.TheVariants as VTermPlace
use Rattle.iv_forms.specs.declared.fact.Fact.{Fact}
use Rattle.iv_forms.specs.declared.fact.Fact.TheVariants as VFact
use Rattle.iv_forms.specs.declared.fact.Att.{Att}
use Rattle.iv_forms.specs.declared.fact.Att.TheVariants as VAtt
use Rattle.iv_forms.specs.declared.fact.Place.{Place}
use Rattle.iv_forms.specs.declared.fact.Place.TheVariants as VPlace
use Rattle.iv_forms.specs.declared.lexeme.Lexeme.{Lexeme}
use Rattle.iv_forms.specs.Lexeme.{Is, IsA}

-- SEL: a number, or a number, `-` and a number
pub data IsSel : Sel → List Lexeme → List Lexeme → Type 0 where
  one : {n : Lexeme} {ts : List Lexeme} → Is sort.Numeral n → IsSel (VSel.One n.number) (n ∷ ts) ts
  range : {n d m : Lexeme} {ts : List Lexeme} → Is sort.Numeral n → IsA class.Minus d → Is sort.Numeral m → IsSel (VSel.Range n.number m.number) (n ∷ d ∷ m ∷ ts) ts

-- ("," SEL)*
pub data IsMoreSels : List Sel → List Lexeme → List Lexeme → Type 0 where
  no_more_sels : {ts : List Lexeme} → IsMoreSels [] ts ts
  more_sels : {c : Lexeme} {s : Sel} {ss : List Sel} {ts us vs : List Lexeme} → IsA class.Comma c → IsSel s ts us → IsMoreSels ss us vs → IsMoreSels (s ∷ ss) (c ∷ ts) vs

-- ("(" SEL ("," SEL)* ")")?
pub data IsSels : List Sel → List Lexeme → List Lexeme → Type 0 where
  no_sels : {ts : List Lexeme} → IsSels [] ts ts
  sels : {a b : Lexeme} {s : Sel} {ss : List Sel} {ts us vs : List Lexeme} → IsA class.Open a → IsSel s ts us → IsMoreSels ss us (b ∷ vs) → IsA class.Close b → IsSels (s ∷ ss) (a ∷ ts) vs

-- ("!" or "?")?
pub data IsMark : Mark → List Lexeme → List Lexeme → Type 0 where
  no_mark : {ts : List Lexeme} → IsMark VMark.None ts ts
  strong : {e : Lexeme} {ts : List Lexeme} → IsA class.Exclamation e → IsMark VMark.Strong (e ∷ ts) ts
  weak : {q : Lexeme} {ts : List Lexeme} → IsA class.Question q → IsMark VMark.Weak (q ∷ ts) ts

-- TERM or "_"
pub data IsTermPlace : TermPlace → List Lexeme → List Lexeme → Type 0 where
  term_hole : {d : Lexeme} {ts : List Lexeme} → IsA class.Dummy d → IsTermPlace VTermPlace.Hole (d ∷ ts) ts
  term_given : {t : Lexeme} {ts : List Lexeme} → Is sort.Term t → IsTermPlace (VTermPlace.Term t.token) (t ∷ ts) ts

-- (TERM or "_")*
pub data IsTermPlaces : List TermPlace → List Lexeme → List Lexeme → Type 0 where
  no_term_places : {ts : List Lexeme} → IsTermPlaces [] ts ts
  term_places : {p : TermPlace} {ps : List TermPlace} {ts us vs : List Lexeme} → IsTermPlace p ts us → IsTermPlaces ps us vs → IsTermPlaces (p ∷ ps) ts vs

-- IDENT "=" TERM
pub data IsWhere : Where → List Lexeme → List Lexeme → Type 0 where
  where_is : {x e t : Lexeme} {ts : List Lexeme} → Is sort.Identifier x → IsA class.Equal e → Is sort.Term t → IsWhere (record { name = x.token; term = t.token }) (x ∷ e ∷ t ∷ ts) ts

-- ("and" IDENT "=" TERM)*
pub data IsMoreWheres : List Where → List Lexeme → List Lexeme → Type 0 where
  no_more_wheres : {ts : List Lexeme} → IsMoreWheres [] ts ts
  more_wheres : {a : Lexeme} {e : Where} {es : List Where} {ts us vs : List Lexeme} → IsA class.And a → IsWhere e ts us → IsMoreWheres es us vs → IsMoreWheres (e ∷ es) (a ∷ ts) vs

mutual
  -- FACT: NAME ("(" SEL ("," SEL)* ")")? ATTS?
  pub data IsFact : Fact → List Lexeme → List Lexeme → Type 0 where
    fact : {n : Lexeme} {ss : List Sel} {xs : List Att} {ts us vs : List Lexeme} → Is sort.Name n → IsSels ss ts us → IsOptAtts xs us vs → IsFact (VFact.Fact n.token ss xs) (n ∷ ts) vs

  -- ATTS?
  pub data IsOptAtts : List Att → List Lexeme → List Lexeme → Type 0 where
    no_atts : {ts : List Lexeme} → IsOptAtts [] ts ts
    some_atts : {xs : List Att} {ts us : List Lexeme} → IsAtts xs ts us → IsOptAtts xs ts us

  -- ATTS: "[" ATT ("," ATT)* "]"
  pub data IsAtts : List Att → List Lexeme → List Lexeme → Type 0 where
    atts : {a b : Lexeme} {x : Att} {xs : List Att} {ts us vs : List Lexeme} → IsA class.Left a → IsAtt x ts us → IsMoreAtts xs us (b ∷ vs) → IsA class.Right b → IsAtts (x ∷ xs) (a ∷ ts) vs

  -- ("," ATT)*
  pub data IsMoreAtts : List Att → List Lexeme → List Lexeme → Type 0 where
    no_more_atts : {ts : List Lexeme} → IsMoreAtts [] ts ts
    more_atts : {c : Lexeme} {x : Att} {xs : List Att} {ts us vs : List Lexeme} → IsA class.Comma c → IsAtt x ts us → IsMoreAtts xs us vs → IsMoreAtts (x ∷ xs) (c ∷ ts) vs

  -- ATT: "OF" (FACT or "_")+, "THEN" FACT, "of" (TERM or "_")+, "where" IDENT "=" TERM ("and" IDENT "=" TERM)*, or NAME ("!" or "?")?
  pub data IsAtt : Att → List Lexeme → List Lexeme → Type 0 where
    of_facts : {w : Lexeme} {p : Place} {ps : List Place} {ts us vs : List Lexeme} → IsA class.OfFacts w → IsPlace p ts us → IsPlaces ps us vs → IsAtt (VAtt.OfFacts (p ∷ ps)) (w ∷ ts) vs
    then_fact : {w : Lexeme} {f : Fact} {ts us : List Lexeme} → IsA class.ThenFact w → IsFact f ts us → IsAtt (VAtt.ThenFact f) (w ∷ ts) us
    of_terms : {w : Lexeme} {p : TermPlace} {ps : List TermPlace} {ts us vs : List Lexeme} → IsA class.OfTerms w → IsTermPlace p ts us → IsTermPlaces ps us vs → IsAtt (VAtt.OfTerms (p ∷ ps)) (w ∷ ts) vs
    where_are : {w : Lexeme} {e : Where} {es : List Where} {ts us vs : List Lexeme} → IsA class.Where w → IsWhere e ts us → IsMoreWheres es us vs → IsAtt (VAtt.Where (e ∷ es)) (w ∷ ts) vs
    att_name : {n : Lexeme} {m : Mark} {ts us : List Lexeme} → Is sort.Name n → IsMark m ts us → IsAtt (VAtt.Name n.token m) (n ∷ ts) us

  -- FACT or "_"
  pub data IsPlace : Place → List Lexeme → List Lexeme → Type 0 where
    fact_hole : {d : Lexeme} {ts : List Lexeme} → IsA class.Dummy d → IsPlace VPlace.Hole (d ∷ ts) ts
    fact_given : {f : Fact} {ts us : List Lexeme} → IsFact f ts us → IsPlace (VPlace.Fact f) ts us

  -- (FACT or "_")*
  pub data IsPlaces : List Place → List Lexeme → List Lexeme → Type 0 where
    no_places : {ts : List Lexeme} → IsPlaces [] ts ts
    places : {p : Place} {ps : List Place} {ts us vs : List Lexeme} → IsPlace p ts us → IsPlaces ps us vs → IsPlaces (p ∷ ps) ts vs

-- ("and"? FACT)*
pub data IsMoreFacts : List Fact → List Lexeme → List Lexeme → Type 0 where
  no_more_facts : {ts : List Lexeme} → IsMoreFacts [] ts ts
  more_facts : {f : Fact} {fs : List Fact} {ts us vs : List Lexeme} → IsFact f ts us → IsMoreFacts fs us vs → IsMoreFacts (f ∷ fs) ts vs
  and_facts : {a : Lexeme} {f : Fact} {fs : List Fact} {ts us vs : List Lexeme} → IsA class.And a → IsFact f ts us → IsMoreFacts fs us vs → IsMoreFacts (f ∷ fs) (a ∷ ts) vs

-- FACTS: FACT ("and"? FACT)*
pub data IsFacts : List Fact → List Lexeme → List Lexeme → Type 0 where
  facts : {f : Fact} {fs : List Fact} {ts us vs : List Lexeme} → IsFact f ts us → IsMoreFacts fs us vs → IsFacts (f ∷ fs) ts vs
