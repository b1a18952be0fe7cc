use Rattle.iv_put.proofs.Facts.Code.{head-stays}
use Rattle.iv_put.proofs.apply.with_head.Goals as goal

pub returns-in_ok-head-in-None-clause-ok : goal.returns-in_ok-head-in-None-clause-ok
returns-in_ok-head-in-None-clause-ok c =
    head-stays _ c.in_ok-head-in-None.head _ _ _ _ _ c.with_args.ensures.ok (rw c.types.ensures at c.in_ok-head-in-None.ensures.ok) (c.in-None.ensures _)
