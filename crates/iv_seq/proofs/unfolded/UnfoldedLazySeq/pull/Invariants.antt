use Rattle.iv_seq.specs.Unfold.{pending, pending_turns}
use Rattle.iv_seq.proofs.Binds.{Going}
use Rattle.iv_seq.proofs.unfolded.UnfoldedLazySeq.pull.Given as goal

abbrev pub invariant-loop-answer : goal.invariant-loop-answer
invariant-loop-answer g l = Going
    (pending g.S.LazySeq.search g.N.On.Seen.seen g.N.Outcome.shows (g.F.Follow.means l.initial.self.function) l.initial.self.limit l.initial.self.item l.initial.self.branches.items)
    l.initial.steps
    (pending g.S.LazySeq.search g.N.On.Seen.seen g.N.Outcome.shows (g.F.Follow.means l.self.function) l.self.limit l.self.item l.self.branches.items)
    l.steps
    l.initial.self.function
    l.self.function

abbrev pub decreases-loop-answer : goal.decreases-loop-answer
decreases-loop-answer g l = pending_turns g.S.LazySeq.search g.N.On.Seen.seen g.N.Outcome.shows (g.F.Follow.means l.self.function) l.self.limit l.self.item l.self.branches.items
