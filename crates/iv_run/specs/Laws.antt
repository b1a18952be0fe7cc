-- What the law says.
use Rattle.std.specs.Prelude.{◌≡◌, ℕ, true, List, []}
use Rattle.iv_rules.specs.Rules.{Derivable}
use Rattle.iv_run.specs.Statement.{schematic_var, statement_of, is_solved}

-- a statement with its conclusion among its premises follows from no hypothesis and no axiom
abbrev pub SolvedIsDerivable : Type 0
SolvedIsDerivable = (parts : List (List ℕ)) → is_solved parts ≡ true → Derivable [] (statement_of schematic_var parts)
