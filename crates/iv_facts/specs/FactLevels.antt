-- How many levels facts and labels have, and the first part that has too many. Of this project.
use Rattle.std.specs.Prelude.{ℕ, suc, max, nat_lt, List, Option, Some, None, if◌then◌else◌}
use Rattle.iv_text.specs.declared.Pos.{Pos}
use Rattle.iv_forms.specs.declared.fact.Fact.{Fact}
use Rattle.iv_forms.specs.declared.fact.Att.{Att}
use Rattle.iv_forms.specs.declared.fact.Place.{Place}
use Rattle.iv_forms.specs.declared.prop.Label.{Label}
use Rattle.iv_forms.specs.declared.prop.Claim.{Claim}
use Rattle.iv_forms.specs.declared.prop.Group.{Group}
use Rattle.iv_forms.specs.declared.lexeme.Lexeme.{Lexeme}
use Rattle.iv_forms.specs.FactForm.{IsFact, fact, IsOptAtts, no_atts, some_atts, IsAtts, atts, IsMoreAtts, no_more_atts, more_atts, IsAtt, of_facts, then_fact, of_terms, where_are, att_name, IsPlace, fact_hole, fact_given, IsPlaces, no_places, places, IsMoreFacts, no_more_facts, more_facts, and_facts, IsFacts, facts}
use Rattle.iv_forms.specs.PropForm.{IsLabel, named_label, bare_label, IsOptLabel, no_label, a_label, IsClaim, claim, IsGroup, group, IsMoreGroups, no_more_groups, more_groups, IsProps, props}
use Rattle.iv_facts.specs.Found.{place_of}

-- how many levels a fact, a label or a method may have
unfoldable pub limit : ℕ
limit = 400

-- attributes are one level above the facts in them
abbrev mutual
  pub fact_levels : {f : Fact} {ts us : List Lexeme} → IsFact f ts us → ℕ
  fact_levels (fact n s a) = opt_atts_levels a

  pub opt_atts_levels : {xs : List Att} {ts us : List Lexeme} → IsOptAtts xs ts us → ℕ
  opt_atts_levels no_atts = 0
  opt_atts_levels (some_atts a) = atts_levels a

  pub atts_levels : {xs : List Att} {ts us : List Lexeme} → IsAtts xs ts us → ℕ
  atts_levels (atts a x xs b) = suc (max (att_levels x) (more_atts_levels xs))

  pub more_atts_levels : {xs : List Att} {ts us : List Lexeme} → IsMoreAtts xs ts us → ℕ
  more_atts_levels no_more_atts = 0
  more_atts_levels (more_atts c x xs) = max (att_levels x) (more_atts_levels xs)

  pub att_levels : {x : Att} {ts us : List Lexeme} → IsAtt x ts us → ℕ
  att_levels (of_facts w p ps) = max (place_levels p) (places_levels ps)
  att_levels (then_fact w f) = fact_levels f
  att_levels (of_terms w p ps) = 0
  att_levels (where_are w e es) = 0
  att_levels (att_name n m) = 0

  pub place_levels : {p : Place} {ts us : List Lexeme} → IsPlace p ts us → ℕ
  place_levels (fact_hole d) = 0
  place_levels (fact_given f) = fact_levels f

  pub places_levels : {ps : List Place} {ts us : List Lexeme} → IsPlaces ps ts us → ℕ
  places_levels no_places = 0
  places_levels (places p ps) = max (place_levels p) (places_levels ps)

abbrev pub label_levels : {l : Label} {ts us : List Lexeme} → IsLabel l ts us → ℕ
label_levels (named_label n a c) = opt_atts_levels a
label_levels (bare_label a c) = atts_levels a

-- where a part begins that has so many levels, if these are too many
abbrev pub deep_at : List Lexeme → ℕ → Option Pos
deep_at ts levels = if nat_lt limit levels then Some (place_of ts) else None

-- the first of two places
abbrev pub first_of : Option Pos → Option Pos → Option Pos
first_of None q = q
first_of (Some p) q = Some p

-- where the first part begins that is too deep
abbrev pub deep_fact : {f : Fact} {ts us : List Lexeme} → IsFact f ts us → Option Pos
deep_fact {ts = ts} d = deep_at ts (fact_levels d)

abbrev pub deep_more_facts : {fs : List Fact} {ts us : List Lexeme} → IsMoreFacts fs ts us → Option Pos
deep_more_facts no_more_facts = None
deep_more_facts (more_facts f fs) = first_of (deep_fact f) (deep_more_facts fs)
deep_more_facts (and_facts a f fs) = first_of (deep_fact f) (deep_more_facts fs)

abbrev pub deep_facts : {fs : List Fact} {ts us : List Lexeme} → IsFacts fs ts us → Option Pos
deep_facts (facts f fs) = first_of (deep_fact f) (deep_more_facts fs)

abbrev pub deep_label : {l : Label} {ts us : List Lexeme} → IsLabel l ts us → Option Pos
deep_label {ts = ts} d = deep_at ts (label_levels d)

abbrev pub deep_opt_label : {l : Option Label} {ts us : List Lexeme} → IsOptLabel l ts us → Option Pos
deep_opt_label no_label = None
deep_opt_label (a_label l) = deep_label l

abbrev pub deep_claim : {c : Claim} {ts us : List Lexeme} → IsClaim c ts us → Option Pos
deep_claim (claim l p) = deep_opt_label l

abbrev pub deep_group : {g : Group} {ts us : List Lexeme} → IsGroup g ts us → Option Pos
deep_group (group l p ps) = deep_opt_label l

abbrev pub deep_more_groups : {gs : List Group} {ts us : List Lexeme} → IsMoreGroups gs ts us → Option Pos
deep_more_groups no_more_groups = None
deep_more_groups (more_groups a g gs) = first_of (deep_group g) (deep_more_groups gs)

abbrev pub deep_props : {gs : List Group} {ts us : List Lexeme} → IsProps gs ts us → Option Pos
deep_props (props g gs) = first_of (deep_group g) (deep_more_groups gs)
