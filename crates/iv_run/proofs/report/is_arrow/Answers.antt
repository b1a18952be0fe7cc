use Rattle.std.proofs.Common.{refl}
use Rattle.iv_term.specs.Term.{abs_is}
use Rattle.iv_run.proofs.report.is_arrow.Goals as goal

pub returns-in-Abs : goal.returns-in-Abs
returns-in-Abs c = rw (c.in-Abs.is, abs_is) refl
