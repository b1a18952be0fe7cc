use Rattle.iv_seq.proofs.Theory.{handed_on}
use Rattle.iv_seq.proofs.Binds.{bound_advanced, bound_failed, fetched, not_fetched, shorter, nothing_is}
use Rattle.iv_seq.proofs.bind.Bind.fetch.Goals as goal

pub returns-in_err-self-clause-moved : goal.returns-in_err-self-clause-moved
returns-in_err-self-clause-moved g c =
    rw (handed_on _ _ c.from_residual.ensures.1)
    (bound_failed _ _ _ _ _ _ _ c.requires (not_fetched _ _ _ _ _ _ _ (nothing_is _ c.if-is_some.ensures) c.in_err-self.ensures.pulled))

pub returns-clause-moved : goal.returns-clause-moved
returns-clause-moved g c =
    bound_advanced _ _ _ _ _ _ c.requires (fetched _ _ _ _ _ _ _ (nothing_is _ c.if-is_some.ensures) c.in_ok-self.ensures.pulled)

pub returns-clause-fewer : goal.returns-clause-fewer
returns-clause-fewer g c = shorter _ _ _ _ (fetched _ _ _ _ _ _ _ (nothing_is _ c.if-is_some.ensures) c.in_ok-self.ensures.pulled)
