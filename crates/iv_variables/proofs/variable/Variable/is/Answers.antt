use Rattle.std.proofs.lemmas.Bool.Decides.{same_from_decides}
use Rattle.iv_variables.specs.Same.{variable-Decides}
use Rattle.iv_variables.proofs.variable.Variable.is.Goals as goal

pub returns-clause-same : goal.returns-clause-same
returns-clause-same c = same_from_decides _ _ c.equals.ensures (variable-Decides c.args.self.now c.args.other.now)
