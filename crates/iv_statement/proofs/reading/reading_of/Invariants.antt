use Rattle.std.proofs.Common.{◌≡◌, ◌+◌, ◌<◌, vec_len, length}
use Rattle.std.specs.Option.{option_copied, option_map_or}
use Rattle.iv_statement.specs.Reading.{parts_after, names_in, reading_of}
use Rattle.iv_statement.proofs.PartSteps.{names_behind}
use Rattle.iv_statement.proofs.reading.reading_of.Given as goal

abbrev pub invariant-loop-left : goal.invariant-loop-left
invariant-loop-left l = record {
  read : reading_of l.fn.text ≡ names_behind l.names.items (names_in (parts_after (option_copied l.left)));
  some : 0 < vec_len l.names + option_map_or (λ rest. 1) (option_copied l.left) 0;
}

abbrev pub decreases-loop-left : goal.decreases-loop-left
decreases-loop-left l = option_map_or (λ rest. length rest + 1) (option_copied l.left) 0
