use Rattle.iv_grammar.proofs.type_steps.grown.Goals as goal

pub returns-in-Ok-clause-ok : goal.returns-in-Ok-clause-ok
returns-in-Ok-clause-ok c = λ h. rw c.in-Word.is (c.in-Ok.ensures.ok c.args.frames.now.items c.args.left.now h)
