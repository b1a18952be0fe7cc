use Rattle.iv_hsub.proofs.Stated.{types_keep, values_keep}
use Rattle.iv_hsub.proofs.laws.putting_gives_terms.Goals as goal

pub returns-clause-types : goal.returns-clause-types
returns-clause-types c = types_keep

pub returns-clause-values : goal.returns-clause-values
returns-clause-values c = values_keep
