use Rattle.iv_variables.proofs.Places.{typ-places, term-places, terms-places}
use Rattle.iv_variables.proofs.laws.raising_keeps_places.Goals as goal

pub returns : goal.returns
returns c = record {
  types = typ-places;
  terms = term-places;
  lists = terms-places;
}
