use Rattle.std.proofs.Common.{◌≡◌, ◌≤◌, ◌++◌, ◌∷◌, [], length, drop}
use Rattle.iv_rules.specs.Rules.{axioms_of}
use Rattle.iv_run.specs.Statement.{free_var, statement_of, open_hyps}
use Rattle.iv_run.proofs.prove.from_conclusion.Given as goal

abbrev pub invariant-premises : goal.invariant-premises
invariant-premises l = record {
  within : l.at ≤ length l.premises;
  prop : l.thm.prop ≡ statement_of free_var (drop l.at l.premises ++ l.conclusion ∷ []);
  hyps : l.thm.hyps ≡ open_hyps (drop l.at l.premises) l.conclusion;
  axioms : axioms_of l.thm.derivation ≡ [];
}

abbrev pub decreases-premises : goal.decreases-premises
decreases-premises l = l.at
