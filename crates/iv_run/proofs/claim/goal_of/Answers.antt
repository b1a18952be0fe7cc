use Rattle.std.proofs.Common.{◌≡◌, [], ◌∷◌, sym, ap, ◌∙◌}
use Rattle.std.proofs.lemmas.Result.{IfOk-weaker}
use Rattle.iv_hsub.specs.Hhf.{hhf}
use Rattle.iv_run.specs.Statement.{statement_of, free_var}
use Rattle.iv_run.proofs.Forms.{statement-prop}
use Rattle.iv_run.proofs.ClaimSteps.{statement-form, axioms-start}
use Rattle.iv_run.proofs.claim.goal_of.Goals as goal

pub init-goal-requires : goal.init-goal-requires
init-goal-requires c = rw c.in_ok-claim.ensures.ok (statement-prop c.parts_of_propositions.ensures.imp _ _)

pub returns-clause-claim : goal.returns-clause-claim
returns-clause-claim c = rw (c.in_ok-claim.ensures.ok, ← c.split.ensures) at c.init-goal.ensures.claim

pub returns-clause-subgoals : goal.returns-clause-subgoals
returns-clause-subgoals c =
    let is : hhf c.in_ok-claim.claim ≡ statement_of free_var c.args.parts.now =
    statement-form _ _ _ c.in_ok-claim.ensures.ok ∙ c.in_ok-claim.ensures.ok ∙ ap (statement_of free_var) (sym c.split.ensures) in
    IfOk-weaker c.init-goal.result _ _ (λ g q. q ∙ ap (λ t. t ∷ []) is) c.init-goal.ensures.subgoals

pub returns-clause-axioms : goal.returns-clause-axioms
returns-clause-axioms c = IfOk-weaker c.init-goal.result _ _ (λ g d. axioms-start _ _ _ _ d) c.init-goal.ensures.derivation
