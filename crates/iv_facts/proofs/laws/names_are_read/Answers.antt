use Rattle.iv_facts.proofs.PropsRead.{some_of_read, of_type_read, vars_read, opt_for_read}
use Rattle.iv_facts.proofs.laws.names_are_read.Goals as goal

pub returns : goal.returns
returns c = record {
  some_of = some_of_read c.sets_are_their_members.ensures;
  of_type = of_type_read c.sets_are_their_members.ensures;
  vars = vars_read c.sets_are_their_members.ensures;
  opt_for = opt_for_read c.sets_are_their_members.ensures;
}
