use Rattle.std.proofs.Common.{◌∙◌, ap}
use Rattle.std.specs.List.{fold}
use Rattle.iv_variables.specs.Variables.{terms_variables}
use Rattle.iv_variables.proofs.Once.{collects, collected-first}
use Rattle.iv_variables.proofs.Most.{exit_memory}
use Rattle.iv_variables.proofs.found.Variables.of_terms.Goals as goal

pub returns-in_err-each_in_terms-clause-memory : goal.returns-in_err-each_in_terms-clause-memory
returns-in_err-each_in_terms-clause-memory c =
    exit_memory c.from_residual.result _ (terms_variables c.args.ts.now) c.from_residual.ensures.1 c.in_err-each_in_terms.ensures.err

pub returns-clause-ok : goal.returns-clause-ok
returns-clause-ok c =
    ap (λ n. n.found) (c.in_ok-each_in_terms.ensures.ok ∙ ap (λ z. fold collects (record { kind = c.args.kind; found = z }) (terms_variables c.args.ts.now)) c.new.ensures)
    ∙ collected-first c.args.kind (terms_variables c.args.ts.now)
