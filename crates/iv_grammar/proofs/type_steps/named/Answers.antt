use Rattle.iv_grammar.proofs.TypeSteps.{named_step}
use Rattle.iv_grammar.proofs.type_steps.named.Goals as goal

pub returns-clause-ok : goal.returns-clause-ok
returns-clause-ok c = λ xs left h.
    rw (c.in_ok-put.ensures.ok, c.in_ok-put.ensures.place, c.in_ok-copy.ensures.ok, c.deeper-depth.ensures) (named_step c.args.trees.now.items xs c.args.part c.args.word c.args.text.now left c.requires h)
