use Rattle.iv_term.specs.Term.{abs_is}
use Rattle.iv_hsub.proofs.contraction.contracted.Goals as goal

pub returns-in-Abs-clause-ok : goal.returns-in-Abs-clause-ok
returns-in-Abs-clause-ok c = rw (c.in-Abs.is, abs_is, ← abs_is, ← c.in-Abs.is) c.copy.ensures.ok
