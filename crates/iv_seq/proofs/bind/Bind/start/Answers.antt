use Rattle.iv_seq.proofs.Theory.{handed_on, same_error}
use Rattle.iv_seq.proofs.Binds.{large_call}
use Rattle.iv_seq.proofs.bind.Bind.start.Goals as goal

pub returns-in_err-branch-in-Some-clause-number : goal.returns-in_err-branch-in-Some-clause-number
returns-in_err-branch-in-Some-clause-number g c =
    rw (handed_on _ _ c.from_residual.ensures.1)
    (λ e. large_call _ _ _ _ _ _ c.requires c.in-Some.is (c.in_err-branch-in-Some.ensures.number (same_error _ _ _ _ e)))
