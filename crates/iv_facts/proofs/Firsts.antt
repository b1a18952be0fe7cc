-- Written by tools/outer_laws.py from tools/readings.txt.
-- With which tokens a form begins: none of a set that has none of its first ones.
use Rattle.std.proofs.Common.{◌≡◌, true, false, List}
use Rattle.std.specs.Prelude.{Option}
use Rattle.iv_lex.specs.declared.cutting.Token.{Token}
use Rattle.iv_forms.specs.declared.lexeme.Lexeme.{Lexeme}
use Rattle.iv_forms.specs.Lexeme.{AreAll, no_more, one_more}
use Rattle.iv_recogniser.specs.declared.class.Sort.{Sort}
use Rattle.iv_recogniser.specs.declared.class.Class.TheVariants as class
use Rattle.iv_recogniser.specs.declared.class.Sort.TheVariants as sort
use Rattle.iv_facts.specs.Found.{begins}
use Rattle.iv_facts.specs.Laws.{clear}
use Rattle.iv_facts.proofs.Sorts.{Law, apart}
use Rattle.iv_forms.specs.declared.fact.Sel.{Sel}
use Rattle.iv_forms.specs.declared.fact.Mark.{Mark}
use Rattle.iv_forms.specs.declared.fact.Where.{Where}
use Rattle.iv_forms.specs.declared.fact.TermPlace.{TermPlace}
use Rattle.iv_forms.specs.declared.fact.Fact.{Fact}
use Rattle.iv_forms.specs.declared.fact.Att.{Att}
use Rattle.iv_forms.specs.declared.fact.Place.{Place}
use Rattle.iv_forms.specs.declared.prop.Label.{Label}
use Rattle.iv_forms.specs.declared.prop.Prop.{Prop}
use Rattle.iv_forms.specs.declared.prop.Claim.{Claim}
use Rattle.iv_forms.specs.declared.prop.Group.{Group}
use Rattle.iv_forms.specs.declared.prop.VarGroup.{VarGroup}
use Rattle.iv_forms.specs.FactForm.{IsAtt, IsAtts, IsFact, IsFacts, IsMark, IsMoreAtts, IsMoreFacts, IsMoreSels, IsMoreWheres, IsOptAtts, IsPlace, IsPlaces, IsSel, IsSels, IsTermPlace, IsTermPlaces, IsWhere, and_facts, att_name, atts, fact, fact_given, fact_hole, facts, more_atts, more_facts, more_sels, more_wheres, no_atts, no_mark, no_more_atts, no_more_facts, no_more_sels, no_more_wheres, no_places, no_sels, no_term_places, of_facts, of_terms, one, places, range, sels, some_atts, strong, term_given, term_hole, term_places, then_fact, weak, where_are, where_is}
use Rattle.iv_forms.specs.PropForm.{IsClaim, IsGroup, IsLabel, IsMoreGroups, IsMoreProps, IsMoreVars, IsOfType, IsOptFor, IsOptLabel, IsPatterns, IsProp, IsProps, IsVarGroup, IsVars, a_label, bare_label, claim, for_vars, group, more_groups, more_props, more_vars, named_label, no_for, no_label, no_more_groups, no_more_props, no_more_vars, no_patterns, no_type, of_type, patterns, prop, props, var_group, vars}

module _ (law : Law) where
  pub free_AreAll : (k l : Sort) → clear k l ≡ true → {v : List Token} {ts us : List Lexeme} → AreAll l v ts us → begins k us ≡ false → begins k ts ≡ false
  free_AreAll k l t no_more e = e
  free_AreAll k l t (one_more a b) e = apart law k l t _ a

  pub free_IsSel : (k : Sort) → clear k sort.Numeral ≡ true → {v : Sel} {ts us : List Lexeme} → IsSel v ts us → begins k ts ≡ false
  free_IsSel k not_numeral (one a) = apart law k sort.Numeral not_numeral _ a
  free_IsSel k not_numeral (range a b c) = apart law k sort.Numeral not_numeral _ a

  pub free_IsMoreSels : (k : Sort) → clear k (sort.Only class.Comma) ≡ true → {v : List Sel} {ts us : List Lexeme} → IsMoreSels v ts us → begins k us ≡ false → begins k ts ≡ false
  free_IsMoreSels k not_comma no_more_sels e = e
  free_IsMoreSels k not_comma (more_sels a b c) e = apart law k (sort.Only class.Comma) not_comma _ a

  pub free_IsSels : (k : Sort) → clear k (sort.Only class.Open) ≡ true → {v : List Sel} {ts us : List Lexeme} → IsSels v ts us → begins k us ≡ false → begins k ts ≡ false
  free_IsSels k not_open no_sels e = e
  free_IsSels k not_open (sels a b c d) e = apart law k (sort.Only class.Open) not_open _ a

  pub free_IsMark : (k : Sort) → clear k (sort.Only class.Exclamation) ≡ true → clear k (sort.Only class.Question) ≡ true → {v : Mark} {ts us : List Lexeme} → IsMark v ts us → begins k us ≡ false → begins k ts ≡ false
  free_IsMark k not_exclamation not_question no_mark e = e
  free_IsMark k not_exclamation not_question (strong a) e = apart law k (sort.Only class.Exclamation) not_exclamation _ a
  free_IsMark k not_exclamation not_question (weak a) e = apart law k (sort.Only class.Question) not_question _ a

  pub free_IsTermPlace : (k : Sort) → clear k (sort.Only class.Dummy) ≡ true → clear k sort.Term ≡ true → {v : TermPlace} {ts us : List Lexeme} → IsTermPlace v ts us → begins k ts ≡ false
  free_IsTermPlace k not_dummy not_term (term_hole a) = apart law k (sort.Only class.Dummy) not_dummy _ a
  free_IsTermPlace k not_dummy not_term (term_given a) = apart law k sort.Term not_term _ a

  pub free_IsTermPlaces : (k : Sort) → clear k (sort.Only class.Dummy) ≡ true → clear k sort.Term ≡ true → {v : List TermPlace} {ts us : List Lexeme} → IsTermPlaces v ts us → begins k us ≡ false → begins k ts ≡ false
  free_IsTermPlaces k not_dummy not_term no_term_places e = e
  free_IsTermPlaces k not_dummy not_term (term_places a b) e = free_IsTermPlace k not_dummy not_term a

  pub free_IsWhere : (k : Sort) → clear k sort.Identifier ≡ true → {v : Where} {ts us : List Lexeme} → IsWhere v ts us → begins k ts ≡ false
  free_IsWhere k not_identifier (where_is a b c) = apart law k sort.Identifier not_identifier _ a

  pub free_IsMoreWheres : (k : Sort) → clear k (sort.Only class.And) ≡ true → {v : List Where} {ts us : List Lexeme} → IsMoreWheres v ts us → begins k us ≡ false → begins k ts ≡ false
  free_IsMoreWheres k not_and no_more_wheres e = e
  free_IsMoreWheres k not_and (more_wheres a b c) e = apart law k (sort.Only class.And) not_and _ a

  mutual
    pub free_IsFact : (k : Sort) → clear k sort.Name ≡ true → {v : Fact} {ts us : List Lexeme} → IsFact v ts us → begins k ts ≡ false
    free_IsFact k not_name (fact a b c) = apart law k sort.Name not_name _ a

    pub free_IsOptAtts : (k : Sort) → clear k (sort.Only class.Left) ≡ true → {v : List Att} {ts us : List Lexeme} → IsOptAtts v ts us → begins k us ≡ false → begins k ts ≡ false
    free_IsOptAtts k not_left no_atts e = e
    free_IsOptAtts k not_left (some_atts a) e = free_IsAtts k not_left a

    pub free_IsAtts : (k : Sort) → clear k (sort.Only class.Left) ≡ true → {v : List Att} {ts us : List Lexeme} → IsAtts v ts us → begins k ts ≡ false
    free_IsAtts k not_left (atts a b c d) = apart law k (sort.Only class.Left) not_left _ a

    pub free_IsMoreAtts : (k : Sort) → clear k (sort.Only class.Comma) ≡ true → {v : List Att} {ts us : List Lexeme} → IsMoreAtts v ts us → begins k us ≡ false → begins k ts ≡ false
    free_IsMoreAtts k not_comma no_more_atts e = e
    free_IsMoreAtts k not_comma (more_atts a b c) e = apart law k (sort.Only class.Comma) not_comma _ a

    pub free_IsAtt : (k : Sort) → clear k (sort.Only class.OfFacts) ≡ true → clear k (sort.Only class.ThenFact) ≡ true → clear k (sort.Only class.OfTerms) ≡ true → clear k (sort.Only class.Where) ≡ true → clear k sort.Name ≡ true → {v : Att} {ts us : List Lexeme} → IsAtt v ts us → begins k ts ≡ false
    free_IsAtt k not_offacts not_thenfact not_ofterms not_where not_name (of_facts a b c) = apart law k (sort.Only class.OfFacts) not_offacts _ a
    free_IsAtt k not_offacts not_thenfact not_ofterms not_where not_name (then_fact a b) = apart law k (sort.Only class.ThenFact) not_thenfact _ a
    free_IsAtt k not_offacts not_thenfact not_ofterms not_where not_name (of_terms a b c) = apart law k (sort.Only class.OfTerms) not_ofterms _ a
    free_IsAtt k not_offacts not_thenfact not_ofterms not_where not_name (where_are a b c) = apart law k (sort.Only class.Where) not_where _ a
    free_IsAtt k not_offacts not_thenfact not_ofterms not_where not_name (att_name a b) = apart law k sort.Name not_name _ a

    pub free_IsPlace : (k : Sort) → clear k (sort.Only class.Dummy) ≡ true → clear k sort.Name ≡ true → {v : Place} {ts us : List Lexeme} → IsPlace v ts us → begins k ts ≡ false
    free_IsPlace k not_dummy not_name (fact_hole a) = apart law k (sort.Only class.Dummy) not_dummy _ a
    free_IsPlace k not_dummy not_name (fact_given a) = free_IsFact k not_name a

    pub free_IsPlaces : (k : Sort) → clear k (sort.Only class.Dummy) ≡ true → clear k sort.Name ≡ true → {v : List Place} {ts us : List Lexeme} → IsPlaces v ts us → begins k us ≡ false → begins k ts ≡ false
    free_IsPlaces k not_dummy not_name no_places e = e
    free_IsPlaces k not_dummy not_name (places a b) e = free_IsPlace k not_dummy not_name a

  pub free_IsMoreFacts : (k : Sort) → clear k sort.Name ≡ true → clear k (sort.Only class.And) ≡ true → {v : List Fact} {ts us : List Lexeme} → IsMoreFacts v ts us → begins k us ≡ false → begins k ts ≡ false
  free_IsMoreFacts k not_name not_and no_more_facts e = e
  free_IsMoreFacts k not_name not_and (more_facts a b) e = free_IsFact k not_name a
  free_IsMoreFacts k not_name not_and (and_facts a b c) e = apart law k (sort.Only class.And) not_and _ a

  pub free_IsFacts : (k : Sort) → clear k sort.Name ≡ true → {v : List Fact} {ts us : List Lexeme} → IsFacts v ts us → begins k ts ≡ false
  free_IsFacts k not_name (facts a b) = free_IsFact k not_name a

  pub free_IsLabel : (k : Sort) → clear k sort.Name ≡ true → clear k (sort.Only class.Left) ≡ true → {v : Label} {ts us : List Lexeme} → IsLabel v ts us → begins k ts ≡ false
  free_IsLabel k not_name not_left (named_label a b c) = apart law k sort.Name not_name _ a
  free_IsLabel k not_name not_left (bare_label a b) = free_IsAtts k not_left a

  pub free_IsOptLabel : (k : Sort) → clear k sort.Name ≡ true → clear k (sort.Only class.Left) ≡ true → {v : Option Label} {ts us : List Lexeme} → IsOptLabel v ts us → begins k us ≡ false → begins k ts ≡ false
  free_IsOptLabel k not_name not_left no_label e = e
  free_IsOptLabel k not_name not_left (a_label a) e = free_IsLabel k not_name not_left a

  pub free_IsPatterns : (k : Sort) → clear k (sort.Only class.Open) ≡ true → {v : List Token} {ts us : List Lexeme} → IsPatterns v ts us → begins k us ≡ false → begins k ts ≡ false
  free_IsPatterns k not_open no_patterns e = e
  free_IsPatterns k not_open (patterns a b c d f) e = apart law k (sort.Only class.Open) not_open _ a

  pub free_IsProp : (k : Sort) → clear k sort.Term ≡ true → {v : Prop} {ts us : List Lexeme} → IsProp v ts us → begins k ts ≡ false
  free_IsProp k not_term (prop a b) = apart law k sort.Term not_term _ a

  pub free_IsClaim : (k : Sort) → clear k sort.Name ≡ true → clear k (sort.Only class.Left) ≡ true → clear k sort.Term ≡ true → {v : Claim} {ts us : List Lexeme} → IsClaim v ts us → begins k ts ≡ false
  free_IsClaim k not_name not_left not_term (claim a b) = free_IsOptLabel k not_name not_left a (free_IsProp k not_term b)

  pub free_IsMoreProps : (k : Sort) → clear k sort.Term ≡ true → {v : List Prop} {ts us : List Lexeme} → IsMoreProps v ts us → begins k us ≡ false → begins k ts ≡ false
  free_IsMoreProps k not_term no_more_props e = e
  free_IsMoreProps k not_term (more_props a b) e = free_IsProp k not_term a

  pub free_IsGroup : (k : Sort) → clear k sort.Name ≡ true → clear k (sort.Only class.Left) ≡ true → clear k sort.Term ≡ true → {v : Group} {ts us : List Lexeme} → IsGroup v ts us → begins k ts ≡ false
  free_IsGroup k not_name not_left not_term (group a b c) = free_IsOptLabel k not_name not_left a (free_IsProp k not_term b)

  pub free_IsMoreGroups : (k : Sort) → clear k (sort.Only class.And) ≡ true → {v : List Group} {ts us : List Lexeme} → IsMoreGroups v ts us → begins k us ≡ false → begins k ts ≡ false
  free_IsMoreGroups k not_and no_more_groups e = e
  free_IsMoreGroups k not_and (more_groups a b c) e = apart law k (sort.Only class.And) not_and _ a

  pub free_IsProps : (k : Sort) → clear k sort.Name ≡ true → clear k (sort.Only class.Left) ≡ true → clear k sort.Term ≡ true → {v : List Group} {ts us : List Lexeme} → IsProps v ts us → begins k ts ≡ false
  free_IsProps k not_name not_left not_term (props a b) = free_IsGroup k not_name not_left not_term a

  pub free_IsOfType : (k : Sort) → clear k (sort.Only class.Colons) ≡ true → {v : Option Token} {ts us : List Lexeme} → IsOfType v ts us → begins k us ≡ false → begins k ts ≡ false
  free_IsOfType k not_colons no_type e = e
  free_IsOfType k not_colons (of_type a b) e = apart law k (sort.Only class.Colons) not_colons _ a

  pub free_IsVarGroup : (k : Sort) → clear k sort.Identifier ≡ true → {v : VarGroup} {ts us : List Lexeme} → IsVarGroup v ts us → begins k ts ≡ false
  free_IsVarGroup k not_identifier (var_group a b c) = apart law k sort.Identifier not_identifier _ a

  pub free_IsMoreVars : (k : Sort) → clear k (sort.Only class.And) ≡ true → {v : List VarGroup} {ts us : List Lexeme} → IsMoreVars v ts us → begins k us ≡ false → begins k ts ≡ false
  free_IsMoreVars k not_and no_more_vars e = e
  free_IsMoreVars k not_and (more_vars a b c) e = apart law k (sort.Only class.And) not_and _ a

  pub free_IsVars : (k : Sort) → clear k sort.Identifier ≡ true → {v : List VarGroup} {ts us : List Lexeme} → IsVars v ts us → begins k ts ≡ false
  free_IsVars k not_identifier (vars a b) = free_IsVarGroup k not_identifier a

  pub free_IsOptFor : (k : Sort) → clear k (sort.Only class.For) ≡ true → {v : List VarGroup} {ts us : List Lexeme} → IsOptFor v ts us → begins k us ≡ false → begins k ts ≡ false
  free_IsOptFor k not_for no_for e = e
  free_IsOptFor k not_for (for_vars a b) e = apart law k (sort.Only class.For) not_for _ a
