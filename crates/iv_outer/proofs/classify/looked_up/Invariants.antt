use Rattle.std.proofs.Common.{◌≡◌, drop}
use Rattle.iv_outer.specs.Words.{plain}
use Rattle.iv_outer.specs.Classify.{looked_up}
use Rattle.iv_outer.proofs.classify.looked_up.Given as goal

abbrev pub invariant-loop-word : goal.invariant-loop-word
invariant-loop-word l = looked_up (plain (drop l.word-index l.table)) l.text ≡ looked_up (plain l.table) l.text
