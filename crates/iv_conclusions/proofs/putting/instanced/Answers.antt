use Rattle.std.proofs.Common.{◌∙◌}
use Rattle.std.proofs.lemmas.Result.{IfOk-weaker}
use Rattle.iv_hsub.proofs.Terms.Short.{short-term}
use Rattle.iv_conclusions.proofs.putting.instanced.Goals as goal

pub returns-in-None-clause-ok : goal.returns-in-None-clause-ok
returns-in-None-clause-ok c =
    let k = rw c.in-None.is at (c.in_ok-changed.ensures.ok (short-term c.requires.0 c.args.t.now c.requires.1)) in
    IfOk-weaker c.copy.result _ _ (λ r e. e ∙ k) c.copy.ensures.ok

pub returns-in-Some-clause-ok : goal.returns-in-Some-clause-ok
returns-in-Some-clause-ok c = rw c.in-Some.is at (c.in_ok-changed.ensures.ok (short-term c.requires.0 c.args.t.now c.requires.1))
