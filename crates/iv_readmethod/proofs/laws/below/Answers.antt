use Rattle.iv_readmethod.proofs.laws.below.Goals as goal

pub returns : goal.returns
returns c = record {
  sets = c.sets_are_apart.ensures;
  facts = c.facts_are_read.ensures;
  names = c.names_are_read.ensures;
  lengths = c.forms_are_short.ensures;
  firsts = c.forms_begin.ensures;
  tails = c.places_are_kept.ensures;
  places = c.deep_facts_are_placed.ensures;
}
