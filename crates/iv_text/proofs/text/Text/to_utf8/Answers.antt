use Rattle.iv_text.proofs.Utf8.{char_encoded}
use Rattle.iv_text.proofs.text.Text.to_utf8.Goals as goal

pub loop-c-preserved : goal.loop-c-preserved
loop-c-preserved c = char_encoded _ _ _ _ _ c.loop-c-test.true c.c-item.is c.loop-c.invariant c.in_ok-push.ensures.bytes
