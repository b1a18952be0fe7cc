use Rattle.std.proofs.Common.{◌≡◌, drop}
use Rattle.iv_recogniser.specs.Table.{plain}
use Rattle.iv_recogniser.specs.Step.{found}
use Rattle.iv_recogniser.proofs.reading.found.Given as goal

abbrev pub invariant-loop-row : goal.invariant-loop-row
invariant-loop-row l = found (plain (drop l.row-index l.rows)) l.class ≡ found (plain l.rows) l.class
