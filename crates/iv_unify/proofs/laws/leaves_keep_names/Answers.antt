use Rattle.iv_unify.proofs.Names.{leaves_keep_names}
use Rattle.iv_unify.proofs.laws.leaves_keep_names.Goals as goal

pub returns : goal.returns
returns c = leaves_keep_names
