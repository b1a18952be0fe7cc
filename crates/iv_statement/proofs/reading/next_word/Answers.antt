use Rattle.iv_statement.proofs.WordSteps.{first_word}
use Rattle.iv_statement.proofs.reading.next_word.Goals as goal

pub returns : goal.returns
returns c =
    rw (c.split_at.ensures.front, c.split_at.ensures.back) (first_word _ _ _ _ c.leading_blanks.ensures.count c.rest_from-text.ensures c.before_blank-len.ensures.count)
