use Rattle.std.proofs.Common.{arith, ◌∙◌, sym}
use Rattle.iv_grammar.proofs.MeasureSteps.{name_at}
use Rattle.iv_grammar.proofs.words.name_more.Goals as goal

pub loop-count-preserved : goal.loop-count-preserved
loop-count-preserved c =
    let on = rw c.rest_from.ensures at (sym c.goes_on.ensures) in
    record {
      inside = omega arith;
      so_far = name_at c.args.chars.now c.loop-count.count c.loop-count-test.true (on ∙ c.if-not-goes_on.false) ∙ c.loop-count.invariant.so_far;
    }
