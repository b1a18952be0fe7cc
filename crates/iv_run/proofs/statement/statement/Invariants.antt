use Rattle.std.proofs.Common.{◌≡◌, ◌≤◌, ◌++◌, ◌∷◌, [], length, drop}
use Rattle.iv_run.specs.Statement.{free_var, statement_of}
use Rattle.iv_run.proofs.statement.statement.Given as goal

abbrev pub invariant-premises : goal.invariant-premises
invariant-premises l = record {
  within : l.at ≤ length l.premises;
  built : l.built ≡ statement_of free_var (drop l.at l.premises ++ l.conclusion ∷ []);
}

abbrev pub decreases-premises : goal.decreases-premises
decreases-premises l = l.at
