use Rattle.iv_readmethod.proofs.MethodPlaces.{method_places, opt_method_places}
use Rattle.iv_readmethod.proofs.laws.deep_methods_are_placed.Goals as goal

pub returns : goal.returns
returns c = record {
  one = method_places c.below.ensures;
  opt = opt_method_places c.below.ensures;
}
