use Rattle.std.proofs.Common.{◌≡◌, ◌<◌, drop}
use Rattle.iv_outer.specs.Classify.{value_from}
use Rattle.iv_outer.proofs.classify.number_of.Given as goal

abbrev pub invariant-loop-c : goal.invariant-loop-c
invariant-loop-c l = record {
  small : l.value < 4294967296;
  so_far : value_from l.value (drop l.c-index l.text) ≡ value_from 0 l.text;
}
