use Rattle.iv_facts.proofs.FactPlaces.{placed}
use Rattle.iv_read.proofs.DeepPlaces.{form_places}
use Rattle.iv_read.proofs.laws.deep_parts_are_placed.Goals as goal

pub returns : goal.returns
returns c f ts us d p e = placed (form_places c.below.ensures d) p e
