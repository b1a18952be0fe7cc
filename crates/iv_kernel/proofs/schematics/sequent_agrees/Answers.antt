use Rattle.iv_kernel.proofs.Variables.{both_yes, first_no}
use Rattle.iv_kernel.proofs.schematics.sequent_agrees.Goals as goal

pub returns-then-all_agree : goal.returns-then-all_agree
returns-then-all_agree c = both_yes _ _ _ _ _ c.all_agree.ensures c.if-all_agree.true c.agrees.ensures

pub returns-else-all_agree : goal.returns-else-all_agree
returns-else-all_agree c = first_no _ _ _ _ c.all_agree.ensures c.if-all_agree.false
