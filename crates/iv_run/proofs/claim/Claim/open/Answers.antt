use Rattle.std.proofs.Common.{[], ◌∷◌, sym, ap, ◌∙◌}
use Rattle.iv_run.specs.Statement.{statement_of, free_var}
use Rattle.iv_run.proofs.claim.Claim.open.Goals as goal

pub returns-clause-open : goal.returns-clause-open
returns-clause-open c = record {
  statement = c.in_ok-goal.ensures.claim ∙ ap (statement_of free_var) (sym c.in_ok-own.ensures.ok);
  subgoals = c.in_ok-goal.ensures.subgoals ∙ ap (λ t. t ∷ []) (sym c.in_ok-goal.ensures.claim);
  hyps = c.in_ok-goal.ensures.hyps;
  axioms = c.in_ok-goal.ensures.axioms;
}
