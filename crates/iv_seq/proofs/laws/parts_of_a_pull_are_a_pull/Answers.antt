use Rattle.iv_seq.proofs.Theory.{further, then_pulled}
use Rattle.iv_seq.proofs.laws.parts_of_a_pull_are_a_pull.Goals as goal

pub returns : goal.returns
returns g c = record { further = further; pulled = then_pulled }
