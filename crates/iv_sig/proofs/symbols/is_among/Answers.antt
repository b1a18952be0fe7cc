use Rattle.std.proofs.Common.{sym}
use Rattle.iv_sig.proofs.Any.{any-here, any-on, any-end}
use Rattle.iv_sig.proofs.symbols.is_among.Goals as goal

pub returns-then-eq : goal.returns-then-eq
returns-then-eq c = any-here _ c.args.others.now c.loop-other.other-index _ c.loop-other.invariant c.loop-other-test.true (sym c.if-eq.ensures)

pub loop-other-preserved : goal.loop-other-preserved
loop-other-preserved c = any-on _ c.args.others.now c.loop-other.other-index _ c.loop-other.invariant c.loop-other-test.true (sym c.if-eq.ensures)

pub returns : goal.returns
returns c = any-end _ c.args.others.now c.loop-other.other-index c.loop-other.invariant c.loop-other-test.false
