use Rattle.iv_facts.proofs.Sorts.{within, apart}
use Rattle.iv_facts.proofs.laws.sets_are_apart.Goals as goal

pub returns : goal.returns
returns c = record {
  within = within c.sets_are_their_members.ensures;
  apart = apart c.sets_are_their_members.ensures;
}
