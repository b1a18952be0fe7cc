use Rattle.iv_kernel.proofs.Variables.{both_yes, first_no}
use Rattle.iv_kernel.proofs.schematics.sequent_has_type.Goals as goal

pub returns-then-all_have_type : goal.returns-then-all_have_type
returns-then-all_have_type c = both_yes _ _ _ _ _ c.all_have_type.ensures c.if-all_have_type.true c.has_type.ensures

pub returns-else-all_have_type : goal.returns-else-all_have_type
returns-else-all_have_type c = first_no _ _ _ _ c.all_have_type.ensures c.if-all_have_type.false
