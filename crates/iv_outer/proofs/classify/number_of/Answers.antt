use Rattle.iv_outer.proofs.Numbers.{too_great, value_is}
use Rattle.iv_outer.proofs.classify.number_of.Goals as goal

pub returns-then-value-gt4294967295 : goal.returns-then-value-gt4294967295
returns-then-value-gt4294967295 c =
    too_great c.args.text.now c.loop-c.c-index c.loop-c.value c.digit.result c.c-item.result c.loop-c-test.true c.c-item.is c.loop-c.invariant.so_far c.digit.ensures.value c.if-value-gt4294967295.true

pub returns : goal.returns
returns c = value_is c.args.text.now c.loop-c.c-index c.loop-c.value c.loop-c-test.false c.loop-c.invariant.so_far c.loop-c.invariant.small
