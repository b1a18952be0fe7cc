use Rattle.std.proofs.Common.{arith, ◌∙◌}
use Rattle.iv_lex.proofs.SpellingSteps.{unescaped_at}
use Rattle.iv_lex.proofs.spellings.unescaped.Goals as goal

pub loop-at-preserved : goal.loop-at-preserved
loop-at-preserved c =
    let is = rw c.rest_from.ensures at c.is_escape-escaped.ensures in
    record {
      inside = omega arith;
      so_far = rw c.in_ok-push_unless.ensures.ok (unescaped_at c.loop-at.escaped c.is_escape-escaped.result c.args.chars.now c.loop-at.text.items c.loop-at.at _ c.loop-at-test.true c.index-chars-at.is is ∙ c.loop-at.invariant.so_far);
    }
