use Rattle.iv_laws.proofs.Members.{instances_among}
use Rattle.iv_laws.proofs.hyps.instances_stay_among.Goals as goal

pub returns : goal.returns
returns c = instances_among
