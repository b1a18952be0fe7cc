use Rattle.iv_facts.proofs.Firsts.{free_IsSels, free_IsAtts, free_IsOptAtts, free_IsFact, free_IsMoreFacts, free_IsProp, free_IsOptFor}
use Rattle.iv_facts.proofs.laws.forms_begin.Goals as goal

pub returns : goal.returns
returns c = record {
  sels = free_IsSels c.sets_are_their_members.ensures;
  atts = free_IsAtts c.sets_are_their_members.ensures;
  opt_atts = free_IsOptAtts c.sets_are_their_members.ensures;
  fact = free_IsFact c.sets_are_their_members.ensures;
  more_facts = free_IsMoreFacts c.sets_are_their_members.ensures;
  prop = free_IsProp c.sets_are_their_members.ensures;
  opt_for = free_IsOptFor c.sets_are_their_members.ensures;
}
