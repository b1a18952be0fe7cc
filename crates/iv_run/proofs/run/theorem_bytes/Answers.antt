use Rattle.std.proofs.Common.{refl, ◌∙◌, arith}
use Rattle.iv_run.proofs.RunSteps.{bytes-push}
use Rattle.iv_run.proofs.run.theorem_bytes.Goals as goal

pub loop-one-preserved : goal.loop-one-preserved
loop-one-preserved c =
    c.in_ok-push_theorem.ensures.ok ∙ bytes-push c.args.named.now c.loop-one.one-index c.one-item.result _ _ (omega arith) c.one-item.is c.loop-one.invariant refl
