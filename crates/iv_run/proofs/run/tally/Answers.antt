use Rattle.std.proofs.Common.{◌++◌, ◌==◌, take, ap, ◌∙◌}
use Rattle.std.specs.Prelude.{Some}
use Rattle.iv_run.proofs.RunSteps.{counts_are, front_cut, front-whole, none-refused}
use Rattle.iv_run.proofs.run.tally.Goals as goal

pub returns-in_err-written-clause-front : goal.returns-in_err-written-clause-front
returns-in_err-written-clause-front g c = λ w h.
    let part = c.in_err-written.ensures.part in
    let bytes = c.as_slice.ensures.value ∙ counts_are _ _ c.args.commands.now _ _ c.in_ok-bytes.ensures.ok c.in_ok-refused.ensures.state c.in_ok-refused.ensures.ok in
    (take part.0 c.as_slice.result.now, (part.2 w h, front_cut w c.as_slice.result.now _ part.0 bytes))

pub returns-clause-accepted : goal.returns-clause-accepted
returns-clause-accepted g c = ap (λ n. n == 0) c.in_ok-refused.ensures.ok ∙ none-refused _ _

pub returns-clause-written : goal.returns-clause-written
returns-clause-written g c = λ w h.
    let bytes = c.as_slice.ensures.value ∙ counts_are _ _ c.args.commands.now _ _ c.in_ok-bytes.ensures.ok c.in_ok-refused.ensures.state c.in_ok-refused.ensures.ok in
    c.in_ok-written.ensures.whole w h ∙ ap (λ t. Some (w ++ t)) bytes

pub returns-clause-front : goal.returns-clause-front
returns-clause-front g c = λ w h.
    let bytes = c.as_slice.ensures.value ∙ counts_are _ _ c.args.commands.now _ _ c.in_ok-bytes.ensures.ok c.in_ok-refused.ensures.state c.in_ok-refused.ensures.ok in
    (c.as_slice.result.now, (c.in_ok-written.ensures.whole w h, front-whole _ _ bytes))
