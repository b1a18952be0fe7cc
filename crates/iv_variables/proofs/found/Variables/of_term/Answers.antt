use Rattle.std.proofs.Common.{◌∙◌, ap}
use Rattle.std.specs.List.{fold}
use Rattle.iv_variables.specs.Variables.{variables}
use Rattle.iv_variables.proofs.Once.{collects, collected-first}
use Rattle.iv_variables.proofs.Most.{exit_memory}
use Rattle.iv_variables.proofs.found.Variables.of_term.Goals as goal

pub returns-in_err-each-clause-memory : goal.returns-in_err-each-clause-memory
returns-in_err-each-clause-memory c =
    exit_memory c.from_residual.result _ (variables c.args.t.now) c.from_residual.ensures.1 c.in_err-each.ensures.err

pub returns-clause-ok : goal.returns-clause-ok
returns-clause-ok c =
    ap (λ n. n.found) (c.in_ok-each.ensures.ok ∙ ap (λ z. fold collects (record { kind = c.args.kind; found = z }) (variables c.args.t.now)) c.new.ensures)
    ∙ collected-first c.args.kind (variables c.args.t.now)
