use Rattle.std.proofs.Common.{◌≡◌, ◌≤◌, ◌+◌, ◌*◌, length}
use Rattle.iv_report.specs.Width.{width_of}
use Rattle.iv_report.proofs.widths.width_of.Given as goal

abbrev pub invariant-loop-rest : goal.invariant-loop-rest
invariant-loop-rest l = record {
  so_far : l.columns + width_of l.rest ≡ width_of l.bytes;
  bound : l.columns + 2 * length l.rest ≤ 2 * length l.bytes;
}

abbrev pub decreases-loop-rest : goal.decreases-loop-rest
decreases-loop-rest l = length l.rest
