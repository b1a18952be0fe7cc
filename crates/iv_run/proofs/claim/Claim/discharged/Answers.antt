use Rattle.std.proofs.Common.{◌≡◌, true, sym, ap, ◌∙◌}
use Rattle.std.specs.Str.{bytes_eq}
use Rattle.std.specs.List.{list_any}
use Rattle.iv_rules.specs.Rules.{axioms_of}
use Rattle.iv_run.specs.Statement.{statement_of, free_var, is_solved}
use Rattle.iv_run.proofs.StatementSteps.{solved-any}
use Rattle.iv_run.proofs.Discharged.{open_hyps-solved}
use Rattle.iv_run.proofs.ClaimSteps.{elim-fits, conclusion-fits, no-premises, union-none, axioms-elim}
use Rattle.iv_run.proofs.claim.Claim.discharged.Goals as goal

pub imp_elim-thm-requires : goal.imp_elim-thm-requires
imp_elim-thm-requires c =
    rw c.thm.ensures.same
    (elim-fits _ _ _ _ c.thm.ensures.prop c.requires.open.subgoals
    (c.in_ok-solved.ensures.prop ∙ ap (statement_of free_var) (sym c.split.ensures) ∙ sym c.requires.open.statement))

pub made-requires : goal.made-requires
made-requires c =
    rw c.claim.ensures
    (conclusion-fits _ _ _ _ c.thm.ensures.prop c.requires.open.subgoals (rw c.thm.ensures.same at c.in_ok-thm.ensures.prop))

pub finish-requires : goal.finish-requires
finish-requires c = c.in_ok-goal.ensures.subgoals ∙ no-premises _

pub returns-clause-prop : goal.returns-clause-prop
returns-clause-prop c = c.finish.ensures.prop ∙ c.in_ok-goal.ensures.claim ∙ c.claim.ensures ∙ c.requires.open.statement

pub returns-clause-hyps : goal.returns-clause-hyps
returns-clause-hyps c =
    let among : list_any (λ p. bytes_eq p c.split.result.1.now) c.split.result.0.now ≡ true =
    sym (solved-any _ _) ∙ ap is_solved (sym c.split.ensures) ∙ c.requires.solved in
    ap (λ t. t.hyps) (c.finish.ensures.thm ∙ c.in_ok-goal.ensures.thm)
    ∙ c.in_ok-thm.ensures.hyps
    ∙ union-none _ _ (ap (λ t. t.hyps) c.thm.ensures.same ∙ c.requires.open.hyps)
    (c.in_ok-solved.ensures.hyps ∙ open_hyps-solved _ _ among)

pub returns-clause-axioms : goal.returns-clause-axioms
returns-clause-axioms c =
    ap (λ t. axioms_of t.derivation) (c.finish.ensures.thm ∙ c.in_ok-goal.ensures.thm)
    ∙ axioms-elim _ _ _ c.in_ok-thm.ensures.derivation (ap (λ t. axioms_of t.derivation) c.thm.ensures.same ∙ c.requires.open.axioms) c.in_ok-solved.ensures.axioms
