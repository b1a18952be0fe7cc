use Rattle.iv_rules.proofs.Conclusions.{concludes_sequents, concludes_one}
use Rattle.iv_rules.proofs.laws.conclusions_are_sequents.Goals as goal

pub returns-clause-sequent : goal.returns-clause-sequent
returns-clause-sequent c = concludes_sequents

pub returns-clause-one : goal.returns-clause-one
returns-clause-one c = concludes_one
