use Rattle.iv_hsub.specs.Bounds.{types_in}
use Rattle.iv_hsub.proofs.typing.type_of.Goals as goal

pub returns-clause-ok : goal.returns-clause-ok
unfolding types_in
returns-clause-ok c = c.type_under.ensures.ok
