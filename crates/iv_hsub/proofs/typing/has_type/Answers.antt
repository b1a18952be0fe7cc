use Rattle.iv_hsub.specs.Bounds.{types_in}
use Rattle.iv_hsub.proofs.typing.has_type.Goals as goal

pub returns : goal.returns
unfolding types_in
returns c = c.fits.ensures
