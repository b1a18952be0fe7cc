-- Each verdict by the steps so far.
use Rattle.std.proofs.Common.{◌≡◌, reverse, ap, sym, ◌∙◌, false, true, arith}
use Rattle.iv_recogniser.specs.Table.{forms}
use Rattle.iv_recogniser.specs.Step.{empties}
use Rattle.iv_recogniser.proofs.Judge.{viable, whole, not_whole, empties_reverse, refused_at, went_on, all_taken}
use Rattle.iv_recogniser.proofs.reading.read.Goals as goal

pub returns-then-not-branch-clause-judged : goal.returns-then-not-branch-clause-judged
returns-then-not-branch-clause-judged c =
    let e = rw c.if-not-branch.true at c.in_ok-step.ensures.ok in
    refused_at c.args.start c.args.classes.now c.loop-place.place _ _ (omega arith) c.loop-place.invariant e

pub loop-place-preserved : goal.loop-place-preserved
loop-place-preserved c =
    let e = rw c.if-not-branch.false at c.in_ok-step.ensures.ok in
    went_on c.args.start c.args.classes.now c.loop-place.place _ _ _ (omega arith) c.loop-place.invariant e

pub returns-then-all_pass-clause-judged : goal.returns-then-all_pass-clause-judged
returns-then-all_pass-clause-judged c =
    let h : empties forms (reverse c.loop-place.stack.items) ≡ true = empties_reverse forms c.loop-place.stack.items ∙ ap (empties forms) (sym c.deref.ensures.value) ∙ sym c.all_pass.ensures ∙ c.if-all_pass.true in
    whole c.args.start c.args.classes.now _ (all_taken c.args.start c.args.classes.now _ _ (omega arith) c.loop-place.invariant) h

pub returns-clause-judged : goal.returns-clause-judged
returns-clause-judged c =
    let h : empties forms (reverse c.loop-place.stack.items) ≡ false = empties_reverse forms c.loop-place.stack.items ∙ ap (empties forms) (sym c.deref.ensures.value) ∙ sym c.all_pass.ensures ∙ c.if-all_pass.false in
    let e = all_taken c.args.start c.args.classes.now _ _ (omega arith) c.loop-place.invariant in
    (not_whole c.args.start c.args.classes.now _ e h, viable c.args.start c.args.classes.now _ e)
