use Rattle.std.proofs.Common.{◌<◌, ◌∷◌, arith, subst}
use Rattle.iv_grammar.specs.Symbol.{Table, IsLongestSymbol}
use Rattle.iv_grammar.proofs.SymbolSteps.{Searched, searched_start, searched_on, searched_all}
use Rattle.iv_grammar.proofs.symbols.longest_from.Goals as goal

pub loop-at-init : goal.loop-at-init
loop-at-init c = searched_start _ _ _ _ c.requires.first c.requires.start

pub bounds-entries-at : goal.bounds-entries-at
bounds-entries-at c = omega (arith, c.loop-at.invariant.within)

next : (c : goal.After-better-best) → Searched c.args.entries.now c.args.c c.args.text.now c.index-entries-at.result.before c.better-best.result × (c.index-entries-at.result.before < c.loop-at.at)
next c =
    let better : (table : Table) → IsLongestSymbol table c.args.text.now c.loop-at.best → IsLongestSymbol ((c.index-entries-at.result.text, c.index-entries-at.result.sign) ∷ table) c.args.text.now c.better-best.result
    = λ table l. subst (λ w. IsLongestSymbol ((w, c.index-entries-at.result.sign) ∷ table) c.args.text.now c.better-best.result) c.as_slice.ensures (c.better-best.ensures table l) in
    searched_on c.args.entries.now c.args.c c.args.text.now c.loop-at.at c.index-entries-at.result c.loop-at.best c.better-best.result c.requires.chained c.requires.first c.loop-at-test.true c.index-entries-at.is c.loop-at.invariant better

pub loop-at-preserved : goal.loop-at-preserved
loop-at-preserved c = (next c).0

pub loop-at-smaller : goal.loop-at-smaller
loop-at-smaller c = (next c).1

pub returns : goal.returns
returns c = searched_all _ _ _ _ _ (omega (arith, c.loop-at-test.false)) c.loop-at.invariant
