use Rattle.iv_facts.proofs.Tails.{tail_AreAll, tail_IsSels, tail_IsOptAtts, tail_IsMoreFacts, tail_IsFacts, tail_IsOptLabel, tail_IsOfType, tail_IsVars, tail_IsOptFor}
use Rattle.iv_facts.proofs.laws.places_are_kept.Goals as goal

pub returns : goal.returns
returns c = record {
  tokens = tail_AreAll;
  sels = tail_IsSels;
  opt_atts = tail_IsOptAtts;
  more_facts = tail_IsMoreFacts;
  facts = tail_IsFacts;
  opt_label = tail_IsOptLabel;
  of_type = tail_IsOfType;
  vars = tail_IsVars;
  opt_for = tail_IsOptFor;
}
