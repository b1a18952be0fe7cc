use Rattle.std.proofs.Common.{◌≡◌, map, take}
use Rattle.std.specs.Prelude.{encode_utf8_all}
use Rattle.std.specs.List.{flat_map}
use Rattle.iv_run.specs.Sound.{seen}
use Rattle.iv_run.specs.Run.{line_of_finished}
use Rattle.iv_run.proofs.run.theorem_bytes.Given as goal

abbrev pub invariant-loop-one : goal.invariant-loop-one
invariant-loop-one l = l.bytes.items ≡ encode_utf8_all (flat_map line_of_finished (map seen (take l.one-index l.named)))
