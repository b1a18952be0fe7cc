use Rattle.iv_hsub.proofs.Terms.Types.{head_type-none}
use Rattle.iv_hsub.proofs.typing.spine_type.Goals as goal

pub returns-in_ok-prop-in-None-clause-ok : goal.returns-in_ok-prop-in-None-clause-ok
returns-in_ok-prop-in-None-clause-ok c =
    rw (head_type-none _ _ c.in-None.ensures) (rw (c.result_type.ensures, c.in_ok-prop-in-None.ensures.ok) at c.copy-made.ensures.ok)
