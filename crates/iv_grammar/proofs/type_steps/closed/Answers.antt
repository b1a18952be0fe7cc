use Rattle.iv_grammar.proofs.TypeSteps.{paren_step}
use Rattle.iv_grammar.proofs.type_steps.closed.Goals as goal

pub returns-in_ok-put-in-Round-clause-ok : goal.returns-in_ok-put-in-Round-clause-ok
returns-in_ok-put-in-Round-clause-ok c = λ xs h.
    rw (c.in_ok-put-in-Round.ensures.ok, c.in_ok-put-in-Round.ensures.place, c.deeper-depth.ensures) (paren_step c.args.trees.now.items xs c.args.part c.in-Round.one c.args.left.now c.in-Round.is h)
