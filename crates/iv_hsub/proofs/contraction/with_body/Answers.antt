use Rattle.std.proofs.Common.{sym}
use Rattle.iv_hsub.proofs.Terms.Eta.{eta-short}
use Rattle.iv_hsub.proofs.contraction.with_body.Goals as goal

pub returns-in-None-body-clause-ok : goal.returns-in-None-body-clause-ok
returns-in-None-body-clause-ok c = rw (c.in-None.is, c.in-None-body.is) (λ q. sym (eta-short _ _ q))
