use Rattle.std.proofs.Common.{length, sym, ap, ◌∙◌, arith}
use Rattle.std.proofs.lemmas.List.{drop_all}
use Rattle.iv_term.specs.Term.{imp}
use Rattle.iv_run.specs.Statement.{statement_of, free_var}
use Rattle.iv_run.proofs.StatementSteps.{statement-more}
use Rattle.iv_run.proofs.statement.statement.Goals as goal

pub premises-init : goal.premises-init
unfolding statement_of
premises-init c = record {
  within = omega arith;
  built = rw (drop_all (length c.args.premises.now) c.args.premises.now (omega arith)) c.in_ok-built.ensures.ok;
}

pub premises-preserved : goal.premises-preserved
premises-preserved c = record {
  within = omega arith;
  built = c.in_ok-built-2.ensures.ok ∙ ap (imp (free_var c.index-premises-at.result)) c.premises.invariant.built
      ∙ sym (statement-more free_var c.args.premises.now c.args.conclusion.now c.index-premises-at.result c.premises.at _ c.premises.invariant.within (omega arith) c.index-premises-at.is);
}
