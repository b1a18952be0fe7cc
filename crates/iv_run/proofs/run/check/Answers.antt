use Rattle.iv_run.proofs.run.check.Goals as goal

pub returns-in-Ok-clause-commands : goal.returns-in-Ok-clause-commands
returns-in-Ok-clause-commands g c = λ executed. (c.in-Ok.commands.items, (c.in-Ok.ensures.commands, λ ds are. c.in-Ok.ensures.only ds are))

pub returns-in-Ok-clause-done : goal.returns-in-Ok-clause-done
returns-in-Ok-clause-done g c = λ answered cs is. rw (c.in-Ok.ensures.only cs is, ← c.as_slice.ensures.value) (c.run_commands.ensures.done answered)

pub returns-in-Ok-clause-written : goal.returns-in-Ok-clause-written
returns-in-Ok-clause-written g c = λ answered cs is w told. rw (c.in-Ok.ensures.only cs is, ← c.as_slice.ensures.value) (c.run_commands.ensures.written answered w told)

pub returns-in-Ok-clause-front : goal.returns-in-Ok-clause-front
returns-in-Ok-clause-front g c = λ cs is w told. rw (c.in-Ok.ensures.only cs is, ← c.as_slice.ensures.value) (c.run_commands.ensures.front w told)

pub returns-in-Ok-clause-theorems : goal.returns-in-Ok-clause-theorems
returns-in-Ok-clause-theorems g c = λ answered cs is. rw (c.in-Ok.ensures.only cs is, ← c.as_slice.ensures.value) (c.run_commands.ensures.theorems answered)

pub returns-in-Ok-clause-closed : goal.returns-in-Ok-clause-closed
returns-in-Ok-clause-closed g c =
    let some = c.run_commands.ensures.some in
    (some.0, (some.1.0, (some.1.1.0, λ cs is. rw (c.in-Ok.ensures.only cs is, ← c.as_slice.ensures.value) some.1.1.1)))
