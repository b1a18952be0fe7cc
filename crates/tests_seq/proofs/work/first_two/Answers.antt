use Rattle.iv_seq.proofs.Theory.{first_of_two, second_of_two}
use Rattle.tests_seq.proofs.work.first_two.Goals as goal

pub returns-in_err-first : goal.returns-in_err-first
returns-in_err-first g c = record { cost = first_of_two _ _ _ _ _ c.pull.ensures.pulled }

pub returns-in_err-second : goal.returns-in_err-second
returns-in_err-second g c = record { cost = second_of_two g.S.Item.Seen.seen _ _ _ _ _ _ _ _ c.in_ok-first.ensures.pulled c.pull-2.ensures.pulled }

pub returns : goal.returns
returns g c = record { cost = second_of_two g.S.Item.Seen.seen _ _ _ _ _ _ _ _ c.in_ok-first.ensures.pulled c.pull-2.ensures.pulled }
