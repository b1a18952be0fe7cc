use Rattle.std.proofs.Common.{ap, sym, ◌∙◌}
use Rattle.iv_sig.specs.Fixity.{is_barred}
use Rattle.iv_sig.proofs.Any.{any-here, any-on, any-end}
use Rattle.iv_sig.proofs.symbols.has_barred.Goals as goal

pub returns-then-is_barred : goal.returns-then-is_barred
returns-then-is_barred c =
    any-here is_barred c.args.chars.now c.loop-c.c-index c.c-item.result c.loop-c.invariant c.loop-c-test.true (ap is_barred (sym c.c-item.is) ∙ sym c.if-is_barred.ensures)

pub loop-c-preserved : goal.loop-c-preserved
loop-c-preserved c =
    any-on is_barred c.args.chars.now c.loop-c.c-index c.c-item.result c.loop-c.invariant c.loop-c-test.true (ap is_barred (sym c.c-item.is) ∙ sym c.if-is_barred.ensures)

pub returns : goal.returns
returns c = any-end is_barred c.args.chars.now c.loop-c.c-index c.loop-c.invariant c.loop-c-test.false
