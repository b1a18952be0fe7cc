use Rattle.std.proofs.Common.{Ok, Err, refl, ap, ◌∙◌}
use Rattle.iv_seq.specs.Moments.{held}
use Rattle.iv_seq.proofs.Theory.{handed_on, begun, front_gave, front_failed, then_pulled, then_failed, then_over, further, advanced_same}
use Rattle.iv_seq.proofs.Binds.{branch_ended, nothing_left}
use Rattle.iv_seq.proofs.bind.BindLazySeq.pull.Goals as goal

pub invariant_of-self : goal.invariant_of-self
invariant_of-self g c = record {
  taken = c.loop-leaf.self.taken;
  item_taken = c.loop-leaf.self.item_taken;
  led = λ x h. c.loop-leaf.self.led x (c.pull.ensures.fitting.narrows x h);
}

pub returns-in_err-leaf-clause-pulled : goal.returns-in_err-leaf-clause-pulled
returns-in_err-leaf-clause-pulled g c =
    rw (handed_on _ _ c.from_residual.ensures.1)
    (then_pulled _ _ _ _ _ _ _ c.loop-leaf.invariant.advanced (front_failed _ _ _ _ _ _ c.in_err-leaf.ensures.pulled))

pub returns-in-Some-clause-pulled : goal.returns-in-Some-clause-pulled
returns-in-Some-clause-pulled g c =
    then_pulled _ _ _ _ _ _ _ c.loop-leaf.invariant.advanced (front_gave _ _ _ _ _ _ (rw c.in-Some.is at c.in_ok-leaf.ensures.pulled))

pub returns-in_err-fetch-clause-pulled : goal.returns-in_err-fetch-clause-pulled
returns-in_err-fetch-clause-pulled g c =
    let p = rw c.in_default.is at c.in_ok-leaf.ensures.pulled in
    rw (handed_on _ _ c.from_residual-in_err-fetch.ensures.1)
    (then_pulled _ _ _ _ _ _ _ (branch_ended _ _ _ _ _ _ _ c.loop-leaf.invariant.advanced p) c.in_err-fetch.ensures.moved)

pub returns-in_err-start-clause-pulled : goal.returns-in_err-start-clause-pulled
returns-in_err-start-clause-pulled g c =
    let p = rw c.in_default.is at c.in_ok-leaf.ensures.pulled in
    rw (handed_on _ _ c.from_residual-in_err-start.ensures.1)
    (then_failed _ _ _ _ _ _ c.in_err-start.ensures.search (λ k. c.in_err-start.ensures.number (ap (λ y. Err y) k))
    (further _ _ _ _ _ _ (branch_ended _ _ _ _ _ _ _ c.loop-leaf.invariant.advanced p) c.in_ok-fetch.ensures.moved))

pub returns-then-not-branch-clause-pulled : goal.returns-then-not-branch-clause-pulled
returns-then-not-branch-clause-pulled g c =
    let p = rw c.in_default.is at c.in_ok-leaf.ensures.pulled in
    let none = c.in_ok-start.ensures.last (ap (λ b. Ok b) c.if-not-branch.true) in
    let over = nothing_left _ _ _ _ _ (ap (held g.F.Out.LazySeq.search) c.in_ok-fetch.ensures.branch ∙ p.ended) none (c.in_ok-fetch.ensures.found none) in
    then_over _ _ _ _ _ c.in_ok-start.ensures.search over
    (further _ _ _ _ _ _ (branch_ended _ _ _ _ _ _ _ c.loop-leaf.invariant.advanced p) c.in_ok-fetch.ensures.moved)

pub loop-leaf-init : goal.loop-leaf-init
loop-leaf-init g c = record { advanced = begun _ _; function = refl }

pub loop-leaf-preserved : goal.loop-leaf-preserved
loop-leaf-preserved g c =
    let p = rw c.in_default.is at c.in_ok-leaf.ensures.pulled in
    record {
      advanced = advanced_same _ _ _ _ _ c.in_ok-start.ensures.search
          (further _ _ _ _ _ _ (branch_ended _ _ _ _ _ _ _ c.loop-leaf.invariant.advanced p) c.in_ok-fetch.ensures.moved);
      function = c.in_ok-start.ensures.function ∙ (c.in_ok-fetch.ensures.function ∙ c.loop-leaf.invariant.function);
    }
