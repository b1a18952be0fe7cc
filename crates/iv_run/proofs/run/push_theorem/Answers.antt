use Rattle.std.proofs.Common.{ap, ◌∙◌, ◌++◌}
use Rattle.iv_run.proofs.run.push_theorem.Goals as goal

pub returns-clause-ok : goal.returns-clause-ok
returns-clause-ok c =
    let line = rw (c.in_ok-line.ensures.ok, c.as_ref.ensures.value, c.prop.ensures.same) at c.in_ok-utf8.ensures.ok in
    c.in_ok-extend_from_slice.ensures.items ∙ ap (λ b. c.args.bytes.now.items ++ b) (c.as_slice.ensures.value ∙ line)
