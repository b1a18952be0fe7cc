use Rattle.iv_hsub.specs.Bounds.{types_in}
use Rattle.iv_hsub.proofs.typing.is_prop.Goals as goal

pub returns : goal.returns
unfolding types_in
returns c = c.is_prop_under.ensures
