use Rattle.std.proofs.Common.{◌++◌, length}
use Rattle.iv_seq.specs.Moments.{branching, ready}
use Rattle.iv_seq.proofs.Binds.{Going}
use Rattle.iv_seq.proofs.bind.BindLazySeq.pull.Given as goal

abbrev pub invariant-loop-leaf : goal.invariant-loop-leaf
invariant-loop-leaf g l = Going
    (branching g.F.Out.LazySeq.search g.A.Item.Seen.seen (g.F.Follow.means l.initial.self.function) l.initial.self.branch l.initial.self.item (g.A.LazySeq.search l.initial.self.first))
    l.initial.steps
    (branching g.F.Out.LazySeq.search g.A.Item.Seen.seen (g.F.Follow.means l.self.function) l.self.branch l.self.item (g.A.LazySeq.search l.self.first))
    l.steps
    l.initial.self.function
    l.self.function

abbrev pub decreases-loop-leaf : goal.decreases-loop-leaf
decreases-loop-leaf g l = length (ready g.A.Item.Seen.seen l.self.item ++ g.A.LazySeq.search l.self.first)
