use Rattle.std.proofs.Common.{length, ◌-◌, ◌≤◌, drop}
use Rattle.iv_grammar.specs.Cut.{Goes}
use Rattle.iv_grammar.proofs.cutting.inner_tokens.Given as goal

abbrev pub invariant-loop-at : goal.invariant-loop-at
invariant-loop-at l = record {
  inside : l.at ≤ length l.text;
  goes : Goes l.symbols l.text (drop l.at l.text) l.found.items;
}

abbrev pub decreases-loop-at : goal.decreases-loop-at
decreases-loop-at l = length l.text - l.at
