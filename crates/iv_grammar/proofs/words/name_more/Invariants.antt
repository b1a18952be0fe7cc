use Rattle.std.proofs.Common.{length, ◌-◌, ◌+◌, ◌≡◌, ◌≤◌, drop}
use Rattle.iv_grammar.specs.Measure.{name_more}
use Rattle.iv_grammar.proofs.words.name_more.Given as goal

abbrev pub invariant-loop-count : goal.invariant-loop-count
invariant-loop-count l = record {
  inside : l.count ≤ length l.chars;
  so_far : l.count + name_more (drop l.count l.chars) ≡ name_more l.chars;
}

abbrev pub decreases-loop-count : goal.decreases-loop-count
decreases-loop-count l = length l.chars - l.count
