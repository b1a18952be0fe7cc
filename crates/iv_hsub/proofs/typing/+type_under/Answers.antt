use Rattle.iv_term.specs.Term.{abs_is}
use Rattle.iv_hsub.specs.Typing.{type_of}
use Rattle.iv_hsub.specs.Bounds.{types_in}
use Rattle.iv_hsub.proofs.typing.+type_under.Goals as goal

pub returns-in_ok-copy-in-Abs-clause-ok : goal.returns-in_ok-copy-in-Abs-clause-ok
unfolding type_of types_in
returns-in_ok-copy-in-Abs-clause-ok t c =
    rw (c.in-Abs.is, abs_is, ← c.get.ensures, ← c.in_ok-inner-in-Abs.ensures.ok) (rw c.in_ok-copy-in-Abs.ensures.ok at c.fun.ensures.ok)

pub returns-in-Spine-clause-ok : goal.returns-in-Spine-clause-ok
unfolding type_of
returns-in-Spine-clause-ok t c = rw c.in-Spine.is c.spine_type.ensures.ok
