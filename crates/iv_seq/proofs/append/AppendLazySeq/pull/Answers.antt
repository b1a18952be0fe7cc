use Rattle.iv_seq.proofs.Theory.{handed_on, front_gave, front_failed, ended_then, fitting_first, fitting_second}
use Rattle.iv_seq.proofs.append.AppendLazySeq.pull.Goals as goal

pub returns-in_err-leaf-clause-pulled : goal.returns-in_err-leaf-clause-pulled
returns-in_err-leaf-clause-pulled g c = rw (handed_on _ _ c.from_residual.ensures.1) (front_failed _ _ _ _ _ _ c.in_err-leaf.ensures.pulled)

pub returns-in_err-leaf-clause-fitting : goal.returns-in_err-leaf-clause-fitting
returns-in_err-leaf-clause-fitting g c = rw (handed_on _ _ c.from_residual.ensures.1) (fitting_first _ _ _ _ c.in_err-leaf.ensures.fitting)

pub returns-in-Some-clause-pulled : goal.returns-in-Some-clause-pulled
returns-in-Some-clause-pulled g c = front_gave _ _ _ _ _ _ (rw c.in-Some.is at c.in_ok-leaf.ensures.pulled)

pub returns-in-Some-clause-fitting : goal.returns-in-Some-clause-fitting
returns-in-Some-clause-fitting g c = fitting_first _ _ _ _ (rw c.in-Some.is at c.in_ok-leaf.ensures.fitting)

pub returns-in-None-clause-pulled : goal.returns-in-None-clause-pulled
returns-in-None-clause-pulled g c = ended_then _ _ _ _ _ _ _ _ (rw c.in-None.is at c.in_ok-leaf.ensures.pulled) c.pull-in-None.ensures.pulled

pub returns-in-None-clause-fitting : goal.returns-in-None-clause-fitting
returns-in-None-clause-fitting g c = fitting_second _ _ _ _ _ _ c.in_ok-leaf.ensures.fitting c.pull-in-None.ensures.fitting
