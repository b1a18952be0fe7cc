use Rattle.iv_seq.proofs.Parts.{either_gave, either_failed, either_ended}
use Rattle.iv_seq.proofs.Theory.{handed_on, fitting_first, fitting_second}
use Rattle.iv_seq.proofs.or_else.OrElseLazySeq.pull.Goals as goal

pub returns-in_err-leaf-clause-pulled : goal.returns-in_err-leaf-clause-pulled
returns-in_err-leaf-clause-pulled g c = rw (handed_on _ _ c.from_residual.ensures.1) (either_failed _ _ _ _ _ _ _ c.in_err-leaf.ensures.pulled)

pub returns-in_err-leaf-clause-fitting : goal.returns-in_err-leaf-clause-fitting
returns-in_err-leaf-clause-fitting g c = rw (handed_on _ _ c.from_residual.ensures.1) (fitting_first _ _ _ _ c.in_err-leaf.ensures.fitting)

pub returns-in-Some-clause-pulled : goal.returns-in-Some-clause-pulled
returns-in-Some-clause-pulled g c = either_gave _ _ _ _ _ _ _ (rw c.in-Some.is at c.in_ok-leaf.ensures.pulled)

pub returns-in-Some-clause-fitting : goal.returns-in-Some-clause-fitting
returns-in-Some-clause-fitting g c = fitting_first _ _ _ _ (rw c.in-Some.is at c.in_ok-leaf.ensures.fitting)

pub returns-then-self-clause-fitting : goal.returns-then-self-clause-fitting
returns-then-self-clause-fitting g c = fitting_first _ _ _ _ (rw c.in_default.is at c.in_ok-leaf.ensures.fitting)

pub returns-clause-pulled : goal.returns-clause-pulled
returns-clause-pulled g c =
    rw c.if-self.false
    (either_ended _ _ _ _ _ _ _ _ (rw c.in_default.is at c.in_ok-leaf.ensures.pulled) c.pull-2.ensures.pulled)

pub returns-clause-fitting : goal.returns-clause-fitting
returns-clause-fitting g c = fitting_second _ _ _ _ _ _ c.in_ok-leaf.ensures.fitting c.pull-2.ensures.fitting
