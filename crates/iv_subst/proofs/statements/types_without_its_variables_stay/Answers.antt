use Rattle.iv_subst.proofs.Laws.Put.{put-kept}
use Rattle.iv_subst.proofs.statements.types_without_its_variables_stay.Goals as goal

pub returns : goal.returns
returns c = put-kept
