use Rattle.std.proofs.Common.{arith, length-drop, ◌∙◌}
use Rattle.iv_lex.proofs.TokenSteps.{after_front}
use Rattle.iv_lex.proofs.cutting.cut.Goals as goal

pub loop-at-preserved : goal.loop-at-preserved
loop-at-preserved c =
    let is = rw c.rest_from-rest.ensures at c.front-kind.ensures.count in
    let mark = rw c.rest_from-rest.ensures at c.front-kind.ensures.kind in
    let fits = rw c.rest_from-rest.ensures at c.front-kind.ensures.within in
    record {
      inside = omega (arith, fits, length-drop c.loop-at.at c.args.letters.now);
      so_far = rw (c.in_ok-push_token.ensures.ok, c.first_items.ensures, c.rest_from-rest.ensures) (after_front c.args.letters.now c.loop-at.at c.front-kind.result.1 c.front-kind.result.0 c.loop-at.found.items is c.front-kind.ensures.some fits mark ∙ c.loop-at.invariant.so_far);
    }
