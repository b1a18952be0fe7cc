use Rattle.std.proofs.Common.{◌≡◌, take, map}
use Rattle.iv_grammar.proofs.delimiters.of_table.Given as goal

abbrev pub invariant-loop-text : goal.invariant-loop-text
invariant-loop-text l = l.symbols ≡ map (λ e. (e.0.now, e.1)) (take l.text-index l.table)
