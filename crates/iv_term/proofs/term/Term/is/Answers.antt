use Rattle.std.proofs.lemmas.Bool.Decides.{same_from_decides}
use Rattle.iv_term.proofs.Laws.Same.{same_term-Decides}
use Rattle.iv_term.proofs.term.Term.is.Goals as goal

pub returns-clause-same : goal.returns-clause-same
returns-clause-same c = same_from_decides _ _ c.equals.ensures (same_term-Decides c.args.self.now c.args.other.now)
