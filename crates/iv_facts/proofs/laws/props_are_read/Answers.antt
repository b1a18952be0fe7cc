use Rattle.iv_facts.proofs.PropsRead.{named_atts_read, opt_label_read, no_label_ahead, prop_read, claim_read, props_read}
use Rattle.iv_facts.proofs.laws.props_are_read.Goals as goal

pub returns : goal.returns
returns c = record {
  named_atts = named_atts_read c.sets_are_their_members.ensures;
  opt_label = opt_label_read c.sets_are_their_members.ensures;
  no_label = no_label_ahead c.sets_are_their_members.ensures;
  prop = prop_read c.sets_are_their_members.ensures;
  claim = claim_read c.sets_are_their_members.ensures;
  props = props_read c.sets_are_their_members.ensures;
}
