use Rattle.std.proofs.Common.{sym}
use Rattle.iv_report.proofs.WidthSteps.{all_counted}
use Rattle.iv_report.proofs.widths.width_of.Goals as goal

pub returns-clause-value : goal.returns-clause-value
returns-clause-value c = all_counted _ c.loop-rest.rest.now _ (sym c.loop-rest-test.ensures) c.loop-rest.invariant.so_far
