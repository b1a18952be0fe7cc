use Rattle.iv_grammar.proofs.TypeSteps.{tuple_step, tuple_stuck}
use Rattle.iv_grammar.proofs.type_steps.tupled.Goals as goal

pub returns-in-None-clause-stuck : goal.returns-in-None-clause-stuck
returns-in-None-clause-stuck c = λ e xs h. tuple_stuck c.args.trees.now.items xs c.args.part c.args.left.now c.requires c.in-None.ensures h

pub returns-in_ok-put-in-Some-clause-ok : goal.returns-in_ok-put-in-Some-clause-ok
returns-in_ok-put-in-Some-clause-ok c = λ xs h.
    rw (c.in_ok-put-in-Some.ensures.ok, c.in_ok-put-in-Some.ensures.place, c.in_ok-copy-in-Some.ensures.ok, c.deeper-depth.ensures, c.in-Some.ensures)
    (tuple_step c.args.trees.now.items xs c.args.part c.in-Some.c.now c.in-Some.after.now c.requires h)
