use Rattle.std.proofs.Common.{arith}
use Rattle.iv_grammar.proofs.CutSteps.{goes_all, goes_only}
use Rattle.iv_grammar.proofs.cutting.inner_tokens.Goals as goal

pub returns-clause-cut : goal.returns-clause-cut
returns-clause-cut c = goes_all c.args.symbols.now c.args.text.now c.loop-at.at c.loop-at.found.items (omega (arith, c.loop-at-test.false)) c.loop-at.invariant.goes

pub returns-clause-only : goal.returns-clause-only
returns-clause-only c = goes_only c.args.symbols.now c.args.text.now c.loop-at.at c.loop-at.found.items (omega (arith, c.loop-at-test.false)) c.loop-at.invariant.goes
