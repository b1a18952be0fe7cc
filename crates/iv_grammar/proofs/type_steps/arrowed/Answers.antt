use Rattle.iv_grammar.proofs.TypeSteps.{arrows_step, arrows_stuck}
use Rattle.iv_grammar.proofs.type_steps.arrowed.Goals as goal

pub returns-in-None-clause-stuck : goal.returns-in-None-clause-stuck
returns-in-None-clause-stuck c = λ e ns h. arrows_stuck ns c.args.frames.now.items c.args.part c.args.left.now c.requires c.in-None.ensures h

pub returns-in_ok-open-in-Some-clause-ok : goal.returns-in_ok-open-in-Some-clause-ok
returns-in_ok-open-in-Some-clause-ok c = λ ns h.
    rw (c.in_ok-open-in-Some.ensures.ok, c.in_ok-open-in-Some.ensures.place, c.in-Some.ensures) (arrows_step ns c.args.frames.now.items c.args.part c.in-Some.after.now c.requires h)
