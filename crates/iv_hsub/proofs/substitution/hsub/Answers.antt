use Rattle.std.proofs.lemmas.Result.{IfOk-weaker}
use Rattle.iv_hsub.specs.Hsub.{hsub}
use Rattle.iv_hsub.proofs.Terms.Put.{hsub-term}
use Rattle.iv_hsub.proofs.substitution.hsub.Goals as goal

pub returns-clause-ok : goal.returns-clause-ok
unfolding hsub
returns-clause-ok c = c.put.ensures.ok

pub returns-clause-typed : goal.returns-clause-typed
unfolding hsub
returns-clause-typed c = λ p q e. IfOk-weaker c.put.result _ _ (λ r s. rw s (hsub-term _ _ _ _ p q e)) c.put.ensures.ok
