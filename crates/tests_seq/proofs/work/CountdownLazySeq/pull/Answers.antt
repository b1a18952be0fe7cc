use Rattle.std.proofs.Common.{◌<◌, arith}
use Rattle.tests_seq.proofs.Countdowns.{countdown_ended, countdown_gave}
use Rattle.tests_seq.proofs.work.CountdownLazySeq.pull.Goals as goal

pub returns-then-self-eq0-clause-pulled : goal.returns-then-self-eq0-clause-pulled
returns-then-self-eq0-clause-pulled g c = countdown_ended _ _ c.if-self-eq0.true

pub returns-clause-pulled : goal.returns-clause-pulled
returns-clause-pulled g c =
    let some : 0 < c.args.self.now.left = omega (arith, c.if-self-eq0.false) in
    rw c.tick.ensures (countdown_gave _ _ some)
