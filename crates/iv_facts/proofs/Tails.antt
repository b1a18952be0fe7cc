-- Written by tools/outer_laws.py from tools/readings.txt.
-- Where a place among the tokens that a form leaves is: among those that it reads.
use Rattle.std.proofs.Common.{List, inr}
use Rattle.std.specs.Prelude.{Option}
use Rattle.iv_text.specs.declared.Pos.{Pos}
use Rattle.iv_lex.specs.declared.cutting.Token.{Token}
use Rattle.iv_forms.specs.declared.lexeme.Lexeme.{Lexeme}
use Rattle.iv_forms.specs.Lexeme.{AreAll, no_more, one_more}
use Rattle.iv_recogniser.specs.declared.class.Sort.{Sort}
use Rattle.iv_facts.specs.Found.{IsAmong}
use Rattle.iv_forms.specs.declared.fact.Sel.{Sel}
use Rattle.iv_forms.specs.declared.fact.Mark.{Mark}
use Rattle.iv_forms.specs.declared.fact.Where.{Where}
use Rattle.iv_forms.specs.declared.fact.TermPlace.{TermPlace}
use Rattle.iv_forms.specs.declared.fact.Fact.{Fact}
use Rattle.iv_forms.specs.declared.fact.Att.{Att}
use Rattle.iv_forms.specs.declared.fact.Place.{Place}
use Rattle.iv_forms.specs.declared.prop.Label.{Label}
use Rattle.iv_forms.specs.declared.prop.Prop.{Prop}
use Rattle.iv_forms.specs.declared.prop.Claim.{Claim}
use Rattle.iv_forms.specs.declared.prop.Group.{Group}
use Rattle.iv_forms.specs.declared.prop.VarGroup.{VarGroup}
use Rattle.iv_forms.specs.FactForm.{IsAtt, IsAtts, IsFact, IsFacts, IsMark, IsMoreAtts, IsMoreFacts, IsMoreSels, IsMoreWheres, IsOptAtts, IsPlace, IsPlaces, IsSel, IsSels, IsTermPlace, IsTermPlaces, IsWhere, and_facts, att_name, atts, fact, fact_given, fact_hole, facts, more_atts, more_facts, more_sels, more_wheres, no_atts, no_mark, no_more_atts, no_more_facts, no_more_sels, no_more_wheres, no_places, no_sels, no_term_places, of_facts, of_terms, one, places, range, sels, some_atts, strong, term_given, term_hole, term_places, then_fact, weak, where_are, where_is}
use Rattle.iv_forms.specs.PropForm.{IsClaim, IsGroup, IsLabel, IsMoreGroups, IsMoreProps, IsMoreVars, IsOfType, IsOptFor, IsOptLabel, IsPatterns, IsProp, IsProps, IsVarGroup, IsVars, a_label, bare_label, claim, for_vars, group, more_groups, more_props, more_vars, named_label, no_for, no_label, no_more_groups, no_more_props, no_more_vars, no_patterns, no_type, of_type, patterns, prop, props, var_group, vars}

pub tail_AreAll : (p : Pos) → {k : Sort} {v : List Token} {ts us : List Lexeme} → AreAll k v ts us → IsAmong p us → IsAmong p ts
tail_AreAll p no_more q = q
tail_AreAll p (one_more a b) q = inr (tail_AreAll p b q)

pub tail_IsSel : (p : Pos) → {v : Sel} {ts us : List Lexeme} → IsSel v ts us → IsAmong p us → IsAmong p ts
tail_IsSel p (one a) q = inr q
tail_IsSel p (range a b c) q = inr (inr (inr q))

pub tail_IsMoreSels : (p : Pos) → {v : List Sel} {ts us : List Lexeme} → IsMoreSels v ts us → IsAmong p us → IsAmong p ts
tail_IsMoreSels p no_more_sels q = q
tail_IsMoreSels p (more_sels a b c) q = inr (tail_IsSel p b (tail_IsMoreSels p c q))

pub tail_IsSels : (p : Pos) → {v : List Sel} {ts us : List Lexeme} → IsSels v ts us → IsAmong p us → IsAmong p ts
tail_IsSels p no_sels q = q
tail_IsSels p (sels a b c d) q = inr (tail_IsSel p b (tail_IsMoreSels p c (inr q)))

pub tail_IsMark : (p : Pos) → {v : Mark} {ts us : List Lexeme} → IsMark v ts us → IsAmong p us → IsAmong p ts
tail_IsMark p no_mark q = q
tail_IsMark p (strong a) q = inr q
tail_IsMark p (weak a) q = inr q

pub tail_IsTermPlace : (p : Pos) → {v : TermPlace} {ts us : List Lexeme} → IsTermPlace v ts us → IsAmong p us → IsAmong p ts
tail_IsTermPlace p (term_hole a) q = inr q
tail_IsTermPlace p (term_given a) q = inr q

pub tail_IsTermPlaces : (p : Pos) → {v : List TermPlace} {ts us : List Lexeme} → IsTermPlaces v ts us → IsAmong p us → IsAmong p ts
tail_IsTermPlaces p no_term_places q = q
tail_IsTermPlaces p (term_places a b) q = tail_IsTermPlace p a (tail_IsTermPlaces p b q)

pub tail_IsWhere : (p : Pos) → {v : Where} {ts us : List Lexeme} → IsWhere v ts us → IsAmong p us → IsAmong p ts
tail_IsWhere p (where_is a b c) q = inr (inr (inr q))

pub tail_IsMoreWheres : (p : Pos) → {v : List Where} {ts us : List Lexeme} → IsMoreWheres v ts us → IsAmong p us → IsAmong p ts
tail_IsMoreWheres p no_more_wheres q = q
tail_IsMoreWheres p (more_wheres a b c) q = inr (tail_IsWhere p b (tail_IsMoreWheres p c q))

mutual
  pub tail_IsFact : (p : Pos) → {v : Fact} {ts us : List Lexeme} → IsFact v ts us → IsAmong p us → IsAmong p ts
  tail_IsFact p (fact a b c) q = inr (tail_IsSels p b (tail_IsOptAtts p c q))

  pub tail_IsOptAtts : (p : Pos) → {v : List Att} {ts us : List Lexeme} → IsOptAtts v ts us → IsAmong p us → IsAmong p ts
  tail_IsOptAtts p no_atts q = q
  tail_IsOptAtts p (some_atts a) q = tail_IsAtts p a q

  pub tail_IsAtts : (p : Pos) → {v : List Att} {ts us : List Lexeme} → IsAtts v ts us → IsAmong p us → IsAmong p ts
  tail_IsAtts p (atts a b c d) q = inr (tail_IsAtt p b (tail_IsMoreAtts p c (inr q)))

  pub tail_IsMoreAtts : (p : Pos) → {v : List Att} {ts us : List Lexeme} → IsMoreAtts v ts us → IsAmong p us → IsAmong p ts
  tail_IsMoreAtts p no_more_atts q = q
  tail_IsMoreAtts p (more_atts a b c) q = inr (tail_IsAtt p b (tail_IsMoreAtts p c q))

  pub tail_IsAtt : (p : Pos) → {v : Att} {ts us : List Lexeme} → IsAtt v ts us → IsAmong p us → IsAmong p ts
  tail_IsAtt p (of_facts a b c) q = inr (tail_IsPlace p b (tail_IsPlaces p c q))
  tail_IsAtt p (then_fact a b) q = inr (tail_IsFact p b q)
  tail_IsAtt p (of_terms a b c) q = inr (tail_IsTermPlace p b (tail_IsTermPlaces p c q))
  tail_IsAtt p (where_are a b c) q = inr (tail_IsWhere p b (tail_IsMoreWheres p c q))
  tail_IsAtt p (att_name a b) q = inr (tail_IsMark p b q)

  pub tail_IsPlace : (p : Pos) → {v : Place} {ts us : List Lexeme} → IsPlace v ts us → IsAmong p us → IsAmong p ts
  tail_IsPlace p (fact_hole a) q = inr q
  tail_IsPlace p (fact_given a) q = tail_IsFact p a q

  pub tail_IsPlaces : (p : Pos) → {v : List Place} {ts us : List Lexeme} → IsPlaces v ts us → IsAmong p us → IsAmong p ts
  tail_IsPlaces p no_places q = q
  tail_IsPlaces p (places a b) q = tail_IsPlace p a (tail_IsPlaces p b q)

pub tail_IsMoreFacts : (p : Pos) → {v : List Fact} {ts us : List Lexeme} → IsMoreFacts v ts us → IsAmong p us → IsAmong p ts
tail_IsMoreFacts p no_more_facts q = q
tail_IsMoreFacts p (more_facts a b) q = tail_IsFact p a (tail_IsMoreFacts p b q)
tail_IsMoreFacts p (and_facts a b c) q = inr (tail_IsFact p b (tail_IsMoreFacts p c q))

pub tail_IsFacts : (p : Pos) → {v : List Fact} {ts us : List Lexeme} → IsFacts v ts us → IsAmong p us → IsAmong p ts
tail_IsFacts p (facts a b) q = tail_IsFact p a (tail_IsMoreFacts p b q)

pub tail_IsLabel : (p : Pos) → {v : Label} {ts us : List Lexeme} → IsLabel v ts us → IsAmong p us → IsAmong p ts
tail_IsLabel p (named_label a b c) q = inr (tail_IsOptAtts p b (inr q))
tail_IsLabel p (bare_label a b) q = tail_IsAtts p a (inr q)

pub tail_IsOptLabel : (p : Pos) → {v : Option Label} {ts us : List Lexeme} → IsOptLabel v ts us → IsAmong p us → IsAmong p ts
tail_IsOptLabel p no_label q = q
tail_IsOptLabel p (a_label a) q = tail_IsLabel p a q

pub tail_IsPatterns : (p : Pos) → {v : List Token} {ts us : List Lexeme} → IsPatterns v ts us → IsAmong p us → IsAmong p ts
tail_IsPatterns p no_patterns q = q
tail_IsPatterns p (patterns a b c d e) q = inr (inr (inr (tail_AreAll p d (inr q))))

pub tail_IsProp : (p : Pos) → {v : Prop} {ts us : List Lexeme} → IsProp v ts us → IsAmong p us → IsAmong p ts
tail_IsProp p (prop a b) q = inr (tail_IsPatterns p b q)

pub tail_IsClaim : (p : Pos) → {v : Claim} {ts us : List Lexeme} → IsClaim v ts us → IsAmong p us → IsAmong p ts
tail_IsClaim p (claim a b) q = tail_IsOptLabel p a (tail_IsProp p b q)

pub tail_IsMoreProps : (p : Pos) → {v : List Prop} {ts us : List Lexeme} → IsMoreProps v ts us → IsAmong p us → IsAmong p ts
tail_IsMoreProps p no_more_props q = q
tail_IsMoreProps p (more_props a b) q = tail_IsProp p a (tail_IsMoreProps p b q)

pub tail_IsGroup : (p : Pos) → {v : Group} {ts us : List Lexeme} → IsGroup v ts us → IsAmong p us → IsAmong p ts
tail_IsGroup p (group a b c) q = tail_IsOptLabel p a (tail_IsProp p b (tail_IsMoreProps p c q))

pub tail_IsMoreGroups : (p : Pos) → {v : List Group} {ts us : List Lexeme} → IsMoreGroups v ts us → IsAmong p us → IsAmong p ts
tail_IsMoreGroups p no_more_groups q = q
tail_IsMoreGroups p (more_groups a b c) q = inr (tail_IsGroup p b (tail_IsMoreGroups p c q))

pub tail_IsProps : (p : Pos) → {v : List Group} {ts us : List Lexeme} → IsProps v ts us → IsAmong p us → IsAmong p ts
tail_IsProps p (props a b) q = tail_IsGroup p a (tail_IsMoreGroups p b q)

pub tail_IsOfType : (p : Pos) → {v : Option Token} {ts us : List Lexeme} → IsOfType v ts us → IsAmong p us → IsAmong p ts
tail_IsOfType p no_type q = q
tail_IsOfType p (of_type a b) q = inr (inr q)

pub tail_IsVarGroup : (p : Pos) → {v : VarGroup} {ts us : List Lexeme} → IsVarGroup v ts us → IsAmong p us → IsAmong p ts
tail_IsVarGroup p (var_group a b c) q = inr (tail_AreAll p b (tail_IsOfType p c q))

pub tail_IsMoreVars : (p : Pos) → {v : List VarGroup} {ts us : List Lexeme} → IsMoreVars v ts us → IsAmong p us → IsAmong p ts
tail_IsMoreVars p no_more_vars q = q
tail_IsMoreVars p (more_vars a b c) q = inr (tail_IsVarGroup p b (tail_IsMoreVars p c q))

pub tail_IsVars : (p : Pos) → {v : List VarGroup} {ts us : List Lexeme} → IsVars v ts us → IsAmong p us → IsAmong p ts
tail_IsVars p (vars a b) q = tail_IsVarGroup p a (tail_IsMoreVars p b q)

pub tail_IsOptFor : (p : Pos) → {v : List VarGroup} {ts us : List Lexeme} → IsOptFor v ts us → IsAmong p us → IsAmong p ts
tail_IsOptFor p no_for q = q
tail_IsOptFor p (for_vars a b) q = inr (tail_IsVars p b q)
