use Rattle.std.proofs.Common.{arith, refl}
use Rattle.bstr.proofs.lemmas.PieceLemmas.{piece-bounds}
use Rattle.iv_lex.specs.Letter.{letter_more, letter_value}
use Rattle.iv_lex.proofs.letters.first_letter.Goals as goal

pub overflow_sub-more : goal.overflow_sub-more
overflow_sub-more c =
    let b = piece-bounds c.args.bytes.now c.requires in
    rw c.decode-value.ensures.size (b.0)

pub returns-in-Some-clause-value : goal.returns-in-Some-clause-value
unfolding letter_value
returns-in-Some-clause-value c = c.decode-value.ensures.char

pub returns-in-Some-clause-more : goal.returns-in-Some-clause-more
unfolding letter_more
returns-in-Some-clause-more c = rw (c.decode-value.ensures.size, ← c.decode-value.ensures.char, c.in-Some.is) refl

pub returns-in-Some-clause-within : goal.returns-in-Some-clause-within
returns-in-Some-clause-within c =
    let b = piece-bounds c.args.bytes.now c.requires in
    omega (arith, c.decode-value.ensures.size, b.0, b.2)

pub returns-in-None-clause-value : goal.returns-in-None-clause-value
unfolding letter_value
returns-in-None-clause-value c = c.decode-value.ensures.char

pub returns-in-None-clause-more : goal.returns-in-None-clause-more
unfolding letter_more
returns-in-None-clause-more c = rw (← c.decode-value.ensures.char, c.in-None.is) refl
