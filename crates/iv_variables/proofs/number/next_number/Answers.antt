use Rattle.std.proofs.Common.{◌∙◌, ap}
use Rattle.iv_variables.specs.Variables.{variables}
use Rattle.iv_variables.proofs.Most.{counted-all, exit_large}
use Rattle.iv_variables.proofs.number.next_number.Goals as goal

pub returns-in_err-each-clause-number : goal.returns-in_err-each-clause-number
returns-in_err-each-clause-number c =
    exit_large c.from_residual.result _ 4294967295 (variables c.args.t.now) c.from_residual.ensures.1 c.in_err-each.ensures.err

pub returns-clause-ok : goal.returns-clause-ok
returns-clause-ok c = ap (λ n. n.number) c.in_ok-each.ensures.ok ∙ counted-all (variables c.args.t.now)
