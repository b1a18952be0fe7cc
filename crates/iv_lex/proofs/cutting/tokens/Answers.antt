use Rattle.iv_lex.proofs.PlaceSteps.{tokens_in_order}
use Rattle.iv_lex.proofs.CutSteps.{document_cut}
use Rattle.iv_lex.proofs.cutting.tokens.Goals as goal

pub returns-clause-in_order : goal.returns-clause-in_order
returns-clause-in_order c =
    rw (c.in_ok-found.ensures.ok, c.deref.ensures.value, c.in_ok-letters.ensures.ok) (tokens_in_order c.args.bytes.now)

pub returns-clause-cut : goal.returns-clause-cut
returns-clause-cut c =
    rw (c.in_ok-found.ensures.ok, c.deref.ensures.value, c.in_ok-letters.ensures.ok) (document_cut c.args.bytes.now)
