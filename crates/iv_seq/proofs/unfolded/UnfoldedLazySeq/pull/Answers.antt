use Rattle.std.proofs.Common.{◌≡◌, Option, Result, refl, ◌∙◌}
use Rattle.iv_text.specs.declared.want.Want.{Want}
use Rattle.iv_seq.specs.Pull.{Fitting, FitsItem}
use Rattle.iv_seq.specs.Unfold.{EndsIn}
use Rattle.iv_seq.proofs.Theory.{handed_on, begun, further, then_pulled}
use Rattle.iv_seq.proofs.unfolded.UnfoldedLazySeq.pull.Goals as goal

-- the test goes by the function, which stays
fitting_kept : {A F : Type 0} (test : F → A → Type 0) (f h k : F) (r : Result (Option A) Want) → h ≡ f → k ≡ h → FitsItem (test h) r → Fitting (test f) r (test k)
fitting_kept test f h k r e d i = record { item = rw e at i; narrows = λ x q. rw (d ∙ e) at q }

pub loop-answer-init : goal.loop-answer-init
loop-answer-init g c = record { advanced = begun _ _; function = refl }

pub loop-answer-preserved : goal.loop-answer-preserved
loop-answer-preserved g c =
    record {
      advanced = further _ _ _ _ _ _ c.loop-answer.invariant.advanced (rw c.in-On.is at c.in_ok-answer.ensures.turned);
      function = c.in_ok-answer.ensures.function ∙ c.loop-answer.invariant.function;
    }

pub returns-in_err-answer-clause-pulled : goal.returns-in_err-answer-clause-pulled
returns-in_err-answer-clause-pulled g c =
    rw (handed_on _ _ c.from_residual.ensures.1)
    (then_pulled _ _ _ _ _ _ _ c.loop-answer.invariant.advanced c.in_err-answer.ensures.turned)

pub returns-in_err-answer-clause-fitting : goal.returns-in_err-answer-clause-fitting
returns-in_err-answer-clause-fitting g c =
    rw (handed_on _ _ c.from_residual.ensures.1)
    (fitting_kept (λ f. EndsIn g.N.Outcome.becomes (g.F.Follow.leads f)) _ _ _ _ c.loop-answer.invariant.function c.in_err-answer.ensures.function tt)

pub returns-in-Done-clause-pulled : goal.returns-in-Done-clause-pulled
returns-in-Done-clause-pulled g c =
    then_pulled _ _ _ _ _ _ _ c.loop-answer.invariant.advanced (rw c.in-Done.is at c.in_ok-answer.ensures.turned)

pub returns-in-Done-clause-fitting : goal.returns-in-Done-clause-fitting
returns-in-Done-clause-fitting g c =
    fitting_kept (λ f. EndsIn g.N.Outcome.becomes (g.F.Follow.leads f)) _ _ _ _ c.loop-answer.invariant.function c.in_ok-answer.ensures.function
    (rw c.in-Done.is at c.in_ok-answer.ensures.fitting)
