use Rattle.iv_facts.proofs.FactsRead.{a_fact_read, facts_read}
use Rattle.iv_facts.proofs.laws.facts_are_read.Goals as goal

pub returns : goal.returns
returns c = record {
  fact = a_fact_read c.sets_are_their_members.ensures;
  facts = facts_read c.sets_are_their_members.ensures;
}
