use Rattle.std.proofs.Common.{length, drop, sym, ◌∙◌, ap, arith}
use Rattle.std.proofs.lemmas.List.{drop_all}
use Rattle.iv_term.specs.Term.{imp}
use Rattle.iv_term.specs.Hyps.{without}
use Rattle.iv_run.specs.Statement.{statement_of, free_var, open_hyps}
use Rattle.iv_run.proofs.StatementSteps.{drop-earlier, statement-more}
use Rattle.iv_run.proofs.Discharged.{open_hyps-none, open_hyps-cons}
use Rattle.iv_run.proofs.prove.from_conclusion.Goals as goal

pub premises-init : goal.premises-init
unfolding statement_of
premises-init c =
    let d = drop_all (length c.args.premises.now) c.args.premises.now (omega arith) in
    record {
      within = omega arith;
      prop = rw d c.in_ok-thm.ensures.prop;
      hyps = rw d (c.in_ok-thm.ensures.hyps ∙ sym (open_hyps-none c.args.conclusion.now));
      axioms = c.in_ok-thm.ensures.axioms;
    }

pub premises-preserved : goal.premises-preserved
premises-preserved c =
    let p = c.index-premises-at.result in
    record {
      within = omega arith;
      prop = c.in_ok-thm-2.ensures.prop ∙ ap (imp (free_var p)) c.premises.invariant.prop
          ∙ sym (statement-more free_var c.args.premises.now c.args.conclusion.now p c.premises.at _ c.premises.invariant.within (omega arith) c.index-premises-at.is);
      hyps = c.in_ok-thm-2.ensures.hyps ∙ ap (without (free_var p)) c.premises.invariant.hyps
          ∙ open_hyps-cons p c.args.conclusion.now (drop c.premises.at c.args.premises.now)
          ∙ ap (λ ds. open_hyps ds c.args.conclusion.now) (sym (drop-earlier c.args.premises.now p c.premises.at _ c.premises.invariant.within (omega arith) c.index-premises-at.is));
      axioms = c.in_ok-thm-2.ensures.axioms ∙ c.premises.invariant.axioms;
    }
