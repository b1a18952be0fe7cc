use Rattle.std.proofs.Common.{length}
use Rattle.iv_seq.proofs.Gatherings.{Gathering}
use Rattle.iv_seq.proofs.gather.gathered.Given as goal

abbrev pub invariant-loop-found : goal.invariant-loop-found
invariant-loop-found g l = Gathering
    g.S.Item.Seen.seen
    (g.S.LazySeq.search l.initial.sequence)
    (g.S.LazySeq.search l.sequence)
    l.found.items
    (g.S.LazySeq.fits l.initial.sequence)
    (g.S.LazySeq.fits l.sequence)
    l.initial.steps
    l.steps

abbrev pub decreases-loop-found : goal.decreases-loop-found
decreases-loop-found g l = length (g.S.LazySeq.search l.sequence)
