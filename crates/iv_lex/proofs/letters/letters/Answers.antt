use Rattle.std.proofs.Common.{arith, length-drop, refl}
use Rattle.iv_lex.proofs.LetterSteps.{after_letter}
use Rattle.iv_lex.proofs.letters.letters.Goals as goal

pub loop-at-preserved : goal.loop-at-preserved
loop-at-preserved c =
    let more = rw c.rest_from.ensures at c.first_letter-value.ensures.more in
    let value = rw c.rest_from.ensures at c.first_letter-value.ensures.value in
    let fits = rw c.rest_from.ensures at c.first_letter-value.ensures.within in
    record {
      inside = omega (arith, fits, length-drop c.loop-at.at c.args.bytes.now);
      so_far = rw c.in_ok-push.ensures.items (after_letter _ _ c.first_letter-value.result.1 c.loop-at.found.items _ c.loop-at-test.true more fits (rw (value, more) refl) c.loop-at.invariant.so_far);
    }
