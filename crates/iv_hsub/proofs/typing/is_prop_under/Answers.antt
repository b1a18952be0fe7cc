use Rattle.iv_term.specs.Term.{abs_is}
use Rattle.iv_hsub.proofs.Terms.Tests.{lam-no_prop, spine-fits}
use Rattle.iv_hsub.proofs.typing.is_prop_under.Goals as goal

pub returns-in-Abs : goal.returns-in-Abs
returns-in-Abs c = rw (c.in-Abs.is, abs_is) (lam-no_prop _ _ _)

pub returns-in-Some : goal.returns-in-Some
returns-in-Some c = rw c.in-Spine.is (spine-fits _ _ _ _ _ _ c.in-Some.ensures c.make_prop.ensures)
