use Rattle.std.proofs.Common.{sym, ◌∙◌}
use Rattle.iv_run.proofs.Entries.{entry-there, entry-new}
use Rattle.iv_run.proofs.prove.push_entry.Goals as goal

pub returns-then-is_some-clause-ok : goal.returns-then-is_some-clause-ok
returns-then-is_some-clause-ok c =
    entry-there c.get.result c.args.text.now c.args.entries.now (rw (c.in_ok-name.ensures.ok, c.in_ok-prop.ensures.ok) at c.get.ensures)
    (sym c.is_some.ensures ∙ c.if-is_some.true)

pub returns-in_ok-push-in-Ok-clause-ok : goal.returns-in_ok-push-in-Ok-clause-ok
returns-in_ok-push-in-Ok-clause-ok c =
    let value = rw c.in-Ok.is at c.schematic_var.ensures.ok in
    rw (c.in_ok-name.ensures.ok, c.in_ok-prop.ensures.ok, value) at c.in_ok-push-in-Ok.ensures.ok
    ∙ entry-new c.get.result c.args.text.now c.args.entries.now (rw (c.in_ok-name.ensures.ok, c.in_ok-prop.ensures.ok) at c.get.ensures)
    (sym c.is_some.ensures ∙ c.if-is_some.false)
