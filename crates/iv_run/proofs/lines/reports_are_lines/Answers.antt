use Rattle.iv_run.proofs.PlainTexts.{theorems_are_lines, refusals_are_lines}
use Rattle.iv_run.proofs.lines.reports_are_lines.Goals as goal

pub returns : goal.returns
returns c = record { theorems = theorems_are_lines; refusals = refusals_are_lines }
