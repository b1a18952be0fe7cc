use Rattle.std.proofs.Common.{length, ◌-◌, ◌+◌, ◌≡◌, ◌≤◌, drop}
use Rattle.iv_lex.specs.Form.{name_more}
use Rattle.iv_lex.proofs.forms.name_more.Given as goal

abbrev pub invariant-loop-count : goal.invariant-loop-count
invariant-loop-count l = record {
  inside : l.count ≤ length l.letters;
  so_far : l.count + name_more (drop l.count l.letters) ≡ name_more l.letters;
}

abbrev pub decreases-loop-count : goal.decreases-loop-count
decreases-loop-count l = length l.letters - l.count
