use Rattle.iv_seq.proofs.Theory.{handed_on, within-trans}
use Rattle.iv_seq.proofs.Binds.{shorter_gave}
use Rattle.iv_seq.proofs.Gatherings.{one_more, no_more, one_more_fits, cost_more, cost_done, large_more, large_done}
use Rattle.iv_seq.proofs.gather.gathered.Goals as goal

pub loop-found-smaller : goal.loop-found-smaller
loop-found-smaller g c = shorter_gave _ _ _ _ _ (rw c.in-Some.is at c.in_ok-leaf.ensures.pulled)

pub loop-found-preserved : goal.loop-found-preserved
loop-found-preserved g c =
    let p = rw c.in-Some.is at c.in_ok-leaf.ensures.pulled in
    record {
      leaves = rw c.in_ok-push.ensures.items (one_more _ _ _ _ _ _ _ _ c.loop-found.invariant.leaves p);
      items = rw c.in_ok-push.ensures.items (one_more_fits _ _ _ _ _ c.loop-found.invariant.items c.loop-found.invariant.fits (rw c.in-Some.is at c.in_ok-leaf.ensures.fitting));
      fits = within-trans _ _ _ c.in_ok-leaf.ensures.fitting.narrows c.loop-found.invariant.fits;
      cost = cost_more _ _ _ _ _ _ _ c.loop-found.invariant.cost p;
      large = λ h. c.loop-found.invariant.large (large_more _ _ _ _ _ p h);
    }

pub returns-clause-leaves : goal.returns-clause-leaves
returns-clause-leaves g c = no_more _ _ _ _ _ _ _ c.loop-found.invariant.leaves (rw c.in_default.is at c.in_ok-leaf.ensures.pulled)

pub returns-in_err-leaf-clause-cost : goal.returns-in_err-leaf-clause-cost
returns-in_err-leaf-clause-cost g c = cost_done _ _ _ _ _ _ _ c.loop-found.invariant.cost c.in_err-leaf.ensures.pulled

pub returns-in_err-push-clause-cost : goal.returns-in_err-push-clause-cost
returns-in_err-push-clause-cost g c = cost_done _ _ _ _ _ _ _ c.loop-found.invariant.cost c.in_ok-leaf.ensures.pulled

pub returns-clause-cost : goal.returns-clause-cost
returns-clause-cost g c = cost_done _ _ _ _ _ _ _ c.loop-found.invariant.cost c.in_ok-leaf.ensures.pulled

pub returns-in_err-leaf-clause-number : goal.returns-in_err-leaf-clause-number
returns-in_err-leaf-clause-number g c =
    rw (handed_on _ _ c.from_residual.ensures.1)
    (λ e. c.loop-found.invariant.large (large_done _ _ _ _ _ _ _ c.in_err-leaf.ensures.pulled e))
