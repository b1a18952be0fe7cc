use Rattle.iv_put.proofs.Stated.{maps_are, apply_keeps}
use Rattle.iv_put.proofs.laws.putting_gives_terms.Goals as goal

pub returns-clause-maps : goal.returns-clause-maps
returns-clause-maps c = maps_are

pub returns-clause-both : goal.returns-clause-both
returns-clause-both c = apply_keeps
