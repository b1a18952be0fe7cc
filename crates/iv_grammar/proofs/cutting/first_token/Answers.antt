use Rattle.std.proofs.Common.{arith}
use Rattle.iv_grammar.proofs.CutSteps.{first_sign, first_word, no_front}
use Rattle.iv_grammar.proofs.cutting.first_token.Goals as goal

pub returns-then-count-length : goal.returns-then-count-length
returns-then-count-length c =
    first_sign c.args.symbols.now c.args.chars.now c.in-Some.length c.in-Some.sign c.in-Some.ensures (omega (arith, c.if-count-length.true, c.word_count-count.ensures.count))

pub returns-else-count-length : goal.returns-else-count-length
returns-else-count-length c =
    first_word c.args.symbols.now c.args.chars.now c.word_count-count.result c.word_count-count.ensures.count (omega (arith, c.if-count-length.false)) c.word_count-count.ensures.within
    (λ m h k. c.in-Some.ensures.3 m (omega (arith, c.if-count-length.false, h)) k)

pub returns-then-count-gt0 : goal.returns-then-count-gt0
returns-then-count-gt0 c =
    first_word c.args.symbols.now c.args.chars.now c.word_count-count.result c.word_count-count.ensures.count c.if-count-gt0.true c.word_count-count.ensures.within
    (λ m h k. c.in-None.ensures m (omega (arith, h, c.if-count-gt0.true)) k)

pub returns-else-count-gt0 : goal.returns-else-count-gt0
returns-else-count-gt0 c = no_front c.args.symbols.now c.args.chars.now c.in-None.ensures (omega (arith, c.if-count-gt0.false, c.word_count-count.ensures.count))
