use Rattle.iv_conclusions.proofs.Kept.{keep}
use Rattle.iv_conclusions.proofs.laws.instances_keep_types.Goals as goal

pub returns : goal.returns
returns c = keep c.putting_gives_terms.ensures.types c.putting_gives_terms.ensures.values
