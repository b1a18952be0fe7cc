use Rattle.std.proofs.Common.{◌∙◌, ap, rules}
use Rattle.iv_term.specs.declared.term.Term.TheFolds.{the_lemmas}
use Rattle.iv_term.specs.Term.{abs_is}
use Rattle.iv_run.specs.Report.{prop_text, sides_text, conclusion_text}
use Rattle.iv_run.proofs.LineSteps.{nothing_left, part_left, variable_left, variable_is, arrow_is, sides_are, conclusion_is}
use Rattle.iv_run.proofs.report.+push_prop.Goals as goal

pub push_prop-returns-then-not-is_constant-clause-ok : goal.push_prop-returns-then-not-is_constant-clause-ok
push_prop-returns-then-not-is_constant-clause-ok t c =
    variable_left _ _ _ _ _ _ (variable_is _ _ _ _ c.in-Spine.is c.is_constant.ensures c.if-not-is_constant.true) c.push_variable.ensures.ok c.loop-left.invariant.so_far

pub push_prop-returns-in_default-sides-clause-ok : goal.push_prop-returns-in_default-sides-clause-ok
unfolding sides_text
push_prop-returns-in_default-sides-clause-ok t c =
    nothing_left _ _ _ (arrow_is _ _ _ _ c.in-Spine.is c.is_constant.ensures c.if-not-is_constant.false ∙ ap sides_text c.in_default-sides.is) c.loop-left.invariant.so_far

pub push_prop-returns-in_default-get-clause-ok : goal.push_prop-returns-in_default-get-clause-ok
unfolding conclusion_text
push_prop-returns-in_default-get-clause-ok t c =
    let sides = arrow_is _ _ _ _ c.in-Spine.is c.is_constant.ensures c.if-not-is_constant.false ∙ sides_are _ _ _ _ _ c.in-Cons.is c.get.ensures c.get-in-Spine.ensures in
    nothing_left _ _ _ (ap conclusion_text c.in_default-get.is) (part_left _ _ _ _ _ _ sides c.in_ok-push_premise.ensures.ok c.loop-left.invariant.so_far)

pub push_prop-loop-left-preserved : goal.push_prop-loop-left-preserved
push_prop-loop-left-preserved t c =
    let sides = arrow_is _ _ _ _ c.in-Spine.is c.is_constant.ensures c.if-not-is_constant.false ∙ sides_are _ _ _ _ _ c.in-Cons.is c.get.ensures c.get-in-Spine.ensures in
    let after = part_left _ _ _ _ _ _ sides c.in_ok-push_premise.ensures.ok c.loop-left.invariant.so_far in
    record {
      so_far = part_left _ _ _ _ _ _ (conclusion_is _ _ _ _ c.in-Cons-get.is c.get-left.ensures) c.in_ok-push_ascii.ensures.ok after;
      no_deeper = search (rules, the_lemmas);
    }

pub push_prop-returns-clause-ok : goal.push_prop-returns-clause-ok
unfolding prop_text
push_prop-returns-clause-ok t c = nothing_left _ _ _ (ap prop_text (c.in_default.is ∙ abs_is _ _)) c.loop-left.invariant.so_far
