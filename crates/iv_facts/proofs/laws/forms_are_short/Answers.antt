use Rattle.iv_facts.proofs.Lengths.{len_AreAll, len_IsSels, len_IsOptAtts, len_IsFact, len_IsMoreFacts, len_IsFacts, len_IsOptFor}
use Rattle.iv_facts.proofs.laws.forms_are_short.Goals as goal

pub returns : goal.returns
returns c = record {
  tokens = len_AreAll;
  sels = len_IsSels;
  opt_atts = len_IsOptAtts;
  fact = len_IsFact;
  more_facts = len_IsMoreFacts;
  facts = len_IsFacts;
  opt_for = len_IsOptFor;
}
