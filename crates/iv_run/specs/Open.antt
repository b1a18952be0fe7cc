-- An open claim. Of this project.
use Rattle.std.specs.Prelude.{◌≡◌, [], ◌∷◌}
use Rattle.iv_term.specs.declared.term.Term.TheBlock.{Nil}
use Rattle.iv_rules.specs.Rules.{axioms_of}
use Rattle.iv_run.specs.declared.claim.Claim.{Claim}
use Rattle.iv_run.specs.Statement.{free_var, statement_of}

-- a claim's goal claims its statement and has it as its only subgoal, from no hypothesis and no axiom
pub record IsOpen (c : Claim) : Type 0 where
  pub statement : c.goal.claim ≡ statement_of free_var c.parts
  pub subgoals : c.goal.subgoals ≡ c.goal.claim ∷ []
  pub hyps : c.goal.thm.hyps ≡ Nil
  pub axioms : axioms_of c.goal.thm.derivation ≡ []
