use Rattle.std.proofs.Common.{◌≡◌, length}
use Rattle.std.specs.List.{list_all}
use Rattle.iv_report.specs.Place.{line_of, before_on_line, is_narrow}
use Rattle.iv_report.proofs.places.Cursor.walk.Given as goal

abbrev pub invariant-loop-at : goal.invariant-loop-at
invariant-loop-at l = record {
  line : l.line ≡ line_of l.document l.at;
  before : l.before ≡ length (before_on_line l.document l.at);
  narrow : l.narrow ≡ list_all is_narrow (before_on_line l.document l.at);
}
