use Rattle.iv_subst.proofs.Laws.Put.{put-composed}
use Rattle.iv_subst.proofs.statements.composition_is_one_after_the_other.Goals as goal

pub returns : goal.returns
returns c = put-composed
