use Rattle.iv_term.proofs.Laws.Tests.{implication_yes}
use Rattle.iv_term.proofs.term.Term.is_implication.Goals as goal

pub returns-then-is_implication : goal.returns-then-is_implication
returns-then-is_implication c = implication_yes c.in-Spine.is c.is_implication.ensures c.if-is_implication.true c.are_two.ensures
