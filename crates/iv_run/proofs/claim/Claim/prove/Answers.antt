use Rattle.std.proofs.Common.{sym, ap, ◌∙◌}
use Rattle.iv_run.specs.Statement.{statement_of, free_var, is_solved}
use Rattle.iv_run.proofs.StatementSteps.{solved-any}
use Rattle.iv_run.proofs.claim.Claim.prove.Goals as goal

pub returns-then-not-is_solved-clause-solved : goal.returns-then-not-is_solved-clause-solved
returns-then-not-is_solved-clause-solved c = ap is_solved c.split.ensures ∙ solved-any _ _ ∙ sym c.is_solved.ensures ∙ c.if-not-is_solved.true

pub discharged-requires-clause-solved : goal.discharged-requires-clause-solved
discharged-requires-clause-solved c = ap is_solved c.split.ensures ∙ solved-any _ _ ∙ sym c.is_solved.ensures ∙ c.if-not-is_solved.false

pub generalised-proved-requires-clause-prop : goal.generalised-proved-requires-clause-prop
generalised-proved-requires-clause-prop c = c.in_ok-thm.ensures.prop ∙ ap (statement_of free_var) c.split.ensures

pub returns-clause-solved : goal.returns-clause-solved
returns-clause-solved c = ap is_solved c.split.ensures ∙ solved-any _ _ ∙ sym c.is_solved.ensures ∙ c.if-not-is_solved.false

pub returns-clause-closed : goal.returns-clause-closed
returns-clause-closed c =
    record {
      kept = c.derivation-kept.ensures.kept;
      hyps = c.in_ok-proved.ensures.hyps;
      axioms = c.in_ok-proved.ensures.axioms ∙ c.in_ok-thm.ensures.axioms;
    }
