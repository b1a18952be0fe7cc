use Rattle.iv_subst.proofs.Laws.Put.{put-put}
use Rattle.iv_subst.proofs.statements.putting_twice_is_putting_once.Goals as goal

pub returns : goal.returns
returns c = put-put
