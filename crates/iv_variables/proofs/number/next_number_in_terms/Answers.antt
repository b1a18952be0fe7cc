use Rattle.std.proofs.Common.{◌∙◌, ap}
use Rattle.iv_variables.specs.Variables.{terms_variables}
use Rattle.iv_variables.proofs.Most.{counted-all, exit_large}
use Rattle.iv_variables.proofs.number.next_number_in_terms.Goals as goal

pub returns-in_err-each_in_terms-clause-number : goal.returns-in_err-each_in_terms-clause-number
returns-in_err-each_in_terms-clause-number c =
    exit_large c.from_residual.result _ 4294967295 (terms_variables c.args.ts.now) c.from_residual.ensures.1 c.in_err-each_in_terms.ensures.err

pub returns-clause-ok : goal.returns-clause-ok
returns-clause-ok c = ap (λ n. n.number) c.in_ok-each_in_terms.ensures.ok ∙ counted-all (terms_variables c.args.ts.now)
