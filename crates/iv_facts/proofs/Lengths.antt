-- Written by tools/outer_laws.py from tools/readings.txt.
-- How many tokens a form leaves.
use Rattle.std.proofs.Common.{◌<◌, ◌≤◌, List, length, arith}
use Rattle.std.specs.Prelude.{Option}
use Rattle.iv_lex.specs.declared.cutting.Token.{Token}
use Rattle.iv_forms.specs.declared.lexeme.Lexeme.{Lexeme}
use Rattle.iv_forms.specs.Lexeme.{AreAll, no_more, one_more}
use Rattle.iv_recogniser.specs.declared.class.Sort.{Sort}
use Rattle.iv_forms.specs.declared.fact.Sel.{Sel}
use Rattle.iv_forms.specs.declared.fact.Mark.{Mark}
use Rattle.iv_forms.specs.declared.fact.Where.{Where}
use Rattle.iv_forms.specs.declared.fact.TermPlace.{TermPlace}
use Rattle.iv_forms.specs.declared.fact.Fact.{Fact}
use Rattle.iv_forms.specs.declared.fact.Att.{Att}
use Rattle.iv_forms.specs.declared.fact.Place.{Place}
use Rattle.iv_forms.specs.declared.prop.Label.{Label}
use Rattle.iv_forms.specs.declared.prop.Prop.{Prop}
use Rattle.iv_forms.specs.declared.prop.Claim.{Claim}
use Rattle.iv_forms.specs.declared.prop.Group.{Group}
use Rattle.iv_forms.specs.declared.prop.VarGroup.{VarGroup}
use Rattle.iv_forms.specs.FactForm.{IsAtt, IsAtts, IsFact, IsFacts, IsMark, IsMoreAtts, IsMoreFacts, IsMoreSels, IsMoreWheres, IsOptAtts, IsPlace, IsPlaces, IsSel, IsSels, IsTermPlace, IsTermPlaces, IsWhere, and_facts, att_name, atts, fact, fact_given, fact_hole, facts, more_atts, more_facts, more_sels, more_wheres, no_atts, no_mark, no_more_atts, no_more_facts, no_more_sels, no_more_wheres, no_places, no_sels, no_term_places, of_facts, of_terms, one, places, range, sels, some_atts, strong, term_given, term_hole, term_places, then_fact, weak, where_are, where_is}
use Rattle.iv_forms.specs.PropForm.{IsClaim, IsGroup, IsLabel, IsMoreGroups, IsMoreProps, IsMoreVars, IsOfType, IsOptFor, IsOptLabel, IsPatterns, IsProp, IsProps, IsVarGroup, IsVars, a_label, bare_label, claim, for_vars, group, more_groups, more_props, more_vars, named_label, no_for, no_label, no_more_groups, no_more_props, no_more_vars, no_patterns, no_type, of_type, patterns, prop, props, var_group, vars}

pub len_AreAll : {k : Sort} {v : List Token} {ts us : List Lexeme} → AreAll k v ts us → length us ≤ length ts
len_AreAll no_more = omega (arith)
len_AreAll (one_more a b) = omega (arith, len_AreAll b)

pub len_IsSel : {v : Sel} {ts us : List Lexeme} → IsSel v ts us → length us < length ts
len_IsSel (one a) = omega (arith)
len_IsSel (range a b c) = omega (arith)

pub len_IsMoreSels : {v : List Sel} {ts us : List Lexeme} → IsMoreSels v ts us → length us ≤ length ts
len_IsMoreSels no_more_sels = omega (arith)
len_IsMoreSels (more_sels a b c) = omega (arith, len_IsSel b, len_IsMoreSels c)

pub len_IsSels : {v : List Sel} {ts us : List Lexeme} → IsSels v ts us → length us ≤ length ts
len_IsSels no_sels = omega (arith)
len_IsSels (sels a b c d) = omega (arith, len_IsSel b, len_IsMoreSels c)

pub len_IsMark : {v : Mark} {ts us : List Lexeme} → IsMark v ts us → length us ≤ length ts
len_IsMark no_mark = omega (arith)
len_IsMark (strong a) = omega (arith)
len_IsMark (weak a) = omega (arith)

pub len_IsTermPlace : {v : TermPlace} {ts us : List Lexeme} → IsTermPlace v ts us → length us < length ts
len_IsTermPlace (term_hole a) = omega (arith)
len_IsTermPlace (term_given a) = omega (arith)

pub len_IsTermPlaces : {v : List TermPlace} {ts us : List Lexeme} → IsTermPlaces v ts us → length us ≤ length ts
len_IsTermPlaces no_term_places = omega (arith)
len_IsTermPlaces (term_places a b) = omega (arith, len_IsTermPlace a, len_IsTermPlaces b)

pub len_IsWhere : {v : Where} {ts us : List Lexeme} → IsWhere v ts us → length us < length ts
len_IsWhere (where_is a b c) = omega (arith)

pub len_IsMoreWheres : {v : List Where} {ts us : List Lexeme} → IsMoreWheres v ts us → length us ≤ length ts
len_IsMoreWheres no_more_wheres = omega (arith)
len_IsMoreWheres (more_wheres a b c) = omega (arith, len_IsWhere b, len_IsMoreWheres c)

mutual
  pub len_IsFact : {v : Fact} {ts us : List Lexeme} → IsFact v ts us → length us < length ts
  len_IsFact (fact a b c) = omega (arith, len_IsSels b, len_IsOptAtts c)

  pub len_IsOptAtts : {v : List Att} {ts us : List Lexeme} → IsOptAtts v ts us → length us ≤ length ts
  len_IsOptAtts no_atts = omega (arith)
  len_IsOptAtts (some_atts a) = omega (arith, len_IsAtts a)

  pub len_IsAtts : {v : List Att} {ts us : List Lexeme} → IsAtts v ts us → length us < length ts
  len_IsAtts (atts a b c d) = omega (arith, len_IsAtt b, len_IsMoreAtts c)

  pub len_IsMoreAtts : {v : List Att} {ts us : List Lexeme} → IsMoreAtts v ts us → length us ≤ length ts
  len_IsMoreAtts no_more_atts = omega (arith)
  len_IsMoreAtts (more_atts a b c) = omega (arith, len_IsAtt b, len_IsMoreAtts c)

  pub len_IsAtt : {v : Att} {ts us : List Lexeme} → IsAtt v ts us → length us < length ts
  len_IsAtt (of_facts a b c) = omega (arith, len_IsPlace b, len_IsPlaces c)
  len_IsAtt (then_fact a b) = omega (arith, len_IsFact b)
  len_IsAtt (of_terms a b c) = omega (arith, len_IsTermPlace b, len_IsTermPlaces c)
  len_IsAtt (where_are a b c) = omega (arith, len_IsWhere b, len_IsMoreWheres c)
  len_IsAtt (att_name a b) = omega (arith, len_IsMark b)

  pub len_IsPlace : {v : Place} {ts us : List Lexeme} → IsPlace v ts us → length us < length ts
  len_IsPlace (fact_hole a) = omega (arith)
  len_IsPlace (fact_given a) = omega (arith, len_IsFact a)

  pub len_IsPlaces : {v : List Place} {ts us : List Lexeme} → IsPlaces v ts us → length us ≤ length ts
  len_IsPlaces no_places = omega (arith)
  len_IsPlaces (places a b) = omega (arith, len_IsPlace a, len_IsPlaces b)

pub len_IsMoreFacts : {v : List Fact} {ts us : List Lexeme} → IsMoreFacts v ts us → length us ≤ length ts
len_IsMoreFacts no_more_facts = omega (arith)
len_IsMoreFacts (more_facts a b) = omega (arith, len_IsFact a, len_IsMoreFacts b)
len_IsMoreFacts (and_facts a b c) = omega (arith, len_IsFact b, len_IsMoreFacts c)

pub len_IsFacts : {v : List Fact} {ts us : List Lexeme} → IsFacts v ts us → length us < length ts
len_IsFacts (facts a b) = omega (arith, len_IsFact a, len_IsMoreFacts b)

pub len_IsLabel : {v : Label} {ts us : List Lexeme} → IsLabel v ts us → length us < length ts
len_IsLabel (named_label a b c) = omega (arith, len_IsOptAtts b)
len_IsLabel (bare_label a b) = omega (arith, len_IsAtts a)

pub len_IsOptLabel : {v : Option Label} {ts us : List Lexeme} → IsOptLabel v ts us → length us ≤ length ts
len_IsOptLabel no_label = omega (arith)
len_IsOptLabel (a_label a) = omega (arith, len_IsLabel a)

pub len_IsPatterns : {v : List Token} {ts us : List Lexeme} → IsPatterns v ts us → length us ≤ length ts
len_IsPatterns no_patterns = omega (arith)
len_IsPatterns (patterns a b c d e) = omega (arith, len_AreAll d)

pub len_IsProp : {v : Prop} {ts us : List Lexeme} → IsProp v ts us → length us < length ts
len_IsProp (prop a b) = omega (arith, len_IsPatterns b)

pub len_IsClaim : {v : Claim} {ts us : List Lexeme} → IsClaim v ts us → length us < length ts
len_IsClaim (claim a b) = omega (arith, len_IsOptLabel a, len_IsProp b)

pub len_IsMoreProps : {v : List Prop} {ts us : List Lexeme} → IsMoreProps v ts us → length us ≤ length ts
len_IsMoreProps no_more_props = omega (arith)
len_IsMoreProps (more_props a b) = omega (arith, len_IsProp a, len_IsMoreProps b)

pub len_IsGroup : {v : Group} {ts us : List Lexeme} → IsGroup v ts us → length us < length ts
len_IsGroup (group a b c) = omega (arith, len_IsOptLabel a, len_IsProp b, len_IsMoreProps c)

pub len_IsMoreGroups : {v : List Group} {ts us : List Lexeme} → IsMoreGroups v ts us → length us ≤ length ts
len_IsMoreGroups no_more_groups = omega (arith)
len_IsMoreGroups (more_groups a b c) = omega (arith, len_IsGroup b, len_IsMoreGroups c)

pub len_IsProps : {v : List Group} {ts us : List Lexeme} → IsProps v ts us → length us < length ts
len_IsProps (props a b) = omega (arith, len_IsGroup a, len_IsMoreGroups b)

pub len_IsOfType : {v : Option Token} {ts us : List Lexeme} → IsOfType v ts us → length us ≤ length ts
len_IsOfType no_type = omega (arith)
len_IsOfType (of_type a b) = omega (arith)

pub len_IsVarGroup : {v : VarGroup} {ts us : List Lexeme} → IsVarGroup v ts us → length us < length ts
len_IsVarGroup (var_group a b c) = omega (arith, len_AreAll b, len_IsOfType c)

pub len_IsMoreVars : {v : List VarGroup} {ts us : List Lexeme} → IsMoreVars v ts us → length us ≤ length ts
len_IsMoreVars no_more_vars = omega (arith)
len_IsMoreVars (more_vars a b c) = omega (arith, len_IsVarGroup b, len_IsMoreVars c)

pub len_IsVars : {v : List VarGroup} {ts us : List Lexeme} → IsVars v ts us → length us < length ts
len_IsVars (vars a b) = omega (arith, len_IsVarGroup a, len_IsMoreVars b)

pub len_IsOptFor : {v : List VarGroup} {ts us : List Lexeme} → IsOptFor v ts us → length us ≤ length ts
len_IsOptFor no_for = omega (arith)
len_IsOptFor (for_vars a b) = omega (arith, len_IsVars b)
