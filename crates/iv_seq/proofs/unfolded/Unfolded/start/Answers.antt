use Rattle.std.proofs.Common.{◌<◌, arith, length}
use Rattle.iv_seq.proofs.Theory.{handed_on, same_error, within-trans}
use Rattle.iv_seq.proofs.Unfoldings.{branch_begun, turns_begun, large_begun, led_pushed, more_pushed}
use Rattle.iv_seq.proofs.unfolded.Unfolded.start.Goals as goal

pub returns-in_err-branch-in-Some-clause-number : goal.returns-in_err-branch-in-Some-clause-number
returns-in_err-branch-in-Some-clause-number g c =
    let left : length c.args.self.now.branches.items < c.args.self.now.limit = omega (arith, c.if-len-self.false, c.len.ensures, c.args.self.now.bounded) in
    rw (handed_on _ _ c.from_residual-in_err-branch-in-Some.ensures.1)
    (λ e. large_begun g.S.LazySeq.search g.N.On.Seen.seen g.N.Outcome.shows (g.F.Follow.means c.args.self.now.function) c.args.self.now.limit
    _ _ _ c.in-Some.is left (c.in_err-branch-in-Some.ensures.number (same_error _ _ _ _ e)))

pub invariant_of-self-in-Some : goal.invariant_of-self-in-Some
invariant_of-self-in-Some g c =
    let left : length c.args.self.now.branches.items < c.args.self.now.limit = omega (arith, c.if-len-self.false, c.len.ensures, c.args.self.now.bounded) in
    let more = rw c.in_ok-reserve-in-Some.ensures.items at c.put.ensures in
    record {
      goes_on = c.args.self.now.goes_on;
      item_taken = λ x e. absurd (let bad : ⊥ = cc in bad);
      led = led_pushed g.S.LazySeq.fits (g.F.Follow.leads c.args.self.now.function) _ _ _ more c.args.self.now.led c.in_ok-branch-in-Some.ensures.leads;
      bounded = more_pushed _ _ _ _ more left;
    }

pub returns-in_ok-branch-in-Some-clause-search : goal.returns-in_ok-branch-in-Some-clause-search
returns-in_ok-branch-in-Some-clause-search g c =
    let left : length c.args.self.now.branches.items < c.args.self.now.limit = omega (arith, c.if-len-self.false, c.len.ensures, c.args.self.now.bounded) in
    let more = rw c.in_ok-reserve-in-Some.ensures.items at c.put.ensures in
    branch_begun g.S.LazySeq.search g.N.On.Seen.seen g.N.Outcome.shows (g.F.Follow.means c.args.self.now.function) c.args.self.now.limit
    _ _ _ _ _ c.in-Some.is more left c.in_ok-branch-in-Some.ensures.means

pub returns-in_ok-branch-in-Some-clause-fewer : goal.returns-in_ok-branch-in-Some-clause-fewer
returns-in_ok-branch-in-Some-clause-fewer g c =
    let left : length c.args.self.now.branches.items < c.args.self.now.limit = omega (arith, c.if-len-self.false, c.len.ensures, c.args.self.now.bounded) in
    let more = rw c.in_ok-reserve-in-Some.ensures.items at c.put.ensures in
    turns_begun g.S.LazySeq.search g.N.On.Seen.seen g.N.Outcome.shows (g.F.Follow.means c.args.self.now.function) c.args.self.now.limit
    _ _ _ _ _ c.in-Some.is more left c.in_ok-branch-in-Some.ensures.means
