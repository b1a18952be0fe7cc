use Rattle.std.proofs.Common.{◌<◌, arith}
use Rattle.iv_seq.proofs.Parts.{cut_closed, cut_failed, cut_gave, cut_ended}
use Rattle.iv_seq.proofs.Theory.{handed_on}
use Rattle.iv_seq.proofs.take.TakeLazySeq.pull.Goals as goal

pub returns-then-self-eq0-clause-pulled : goal.returns-then-self-eq0-clause-pulled
returns-then-self-eq0-clause-pulled g c = cut_closed _ _ _ _ c.if-self-eq0.true

pub returns-in_err-leaf-clause-pulled : goal.returns-in_err-leaf-clause-pulled
returns-in_err-leaf-clause-pulled g c =
    let some : 0 < c.args.self.now.left = omega (arith, c.if-self-eq0.false) in
    rw (handed_on _ _ c.from_residual.ensures.1) (cut_failed _ _ _ _ _ _ _ some c.in_err-leaf.ensures.pulled)

pub returns-in-Some-clause-pulled : goal.returns-in-Some-clause-pulled
returns-in-Some-clause-pulled g c =
    let some : 0 < c.args.self.now.left = omega (arith, c.if-self-eq0.false) in
    cut_gave _ _ _ _ _ _ _ some (rw c.in-Some.is at c.in_ok-leaf.ensures.pulled)

pub returns-in-None-clause-pulled : goal.returns-in-None-clause-pulled
returns-in-None-clause-pulled g c =
    let some : 0 < c.args.self.now.left = omega (arith, c.if-self-eq0.false) in
    cut_ended _ _ _ _ _ _ some (rw c.in-None.is at c.in_ok-leaf.ensures.pulled)
