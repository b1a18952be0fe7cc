use Rattle.iv_grammar.proofs.SymbolSteps.{Searched}
use Rattle.iv_grammar.proofs.symbols.longest_from.Given as goal

abbrev pub invariant-loop-at : goal.invariant-loop-at
invariant-loop-at l = Searched l.entries l.fn.c l.text l.at l.best

abbrev pub decreases-loop-at : goal.decreases-loop-at
decreases-loop-at l = l.at
