use Rattle.std.proofs.Common.{◌-◌, ap, ◌∙◌, arith}
use Rattle.iv_seq.specs.Moments.{work_before}
use Rattle.tests_seq.proofs.Countdowns.{first_two_cost}
use Rattle.tests_seq.proofs.work.first_two_of_many.Goals as goal

pub returns : goal.returns
returns g c = record {
  cost = omega (arith, c.first_two.ensures.cost, ap (λ m. work_before m 2) c.new-many.ensures.search ∙ first_two_cost (1099511627776 - 3));
}
