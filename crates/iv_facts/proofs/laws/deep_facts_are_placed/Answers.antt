use Rattle.iv_facts.proofs.FactPlaces.{facts_places, opt_label_places, claim_places, props_places}
use Rattle.iv_facts.proofs.laws.deep_facts_are_placed.Goals as goal

pub returns : goal.returns
returns c = record {
  facts = facts_places;
  opt_label = opt_label_places;
  claim = claim_places;
  props = props_places;
}
