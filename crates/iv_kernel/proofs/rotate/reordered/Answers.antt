use Rattle.std.proofs.Common.{◌∙◌, ap, ◌++◌}
use Rattle.iv_rules.specs.Rules.{Proved, axioms_of}
use Rattle.iv_kernel.proofs.Results.{known}
use Rattle.iv_kernel.specs.Goal.{goal_prop}
use Rattle.iv_kernel.specs.Order.{listed, AreIn}
use Rattle.iv_kernel.proofs.Orders.{in-behind}
use Rattle.iv_kernel.proofs.rotate.reordered.Goals as goal

pub opened-requires : goal.opened-requires
opened-requires c = rw c.in_ok-whole.ensures.ok c.requires.goal

pub returns-clause-prop : goal.returns-clause-prop
returns-clause-prop c =
    known {T = Proved} _ (λ z. z.prop) _ _ c.discharged.ensures.prop (ap (λ z. goal_prop (listed c.args.order.now) z) c.in_ok-open.ensures.prop)

pub returns-clause-hyps : goal.returns-clause-hyps
returns-clause-hyps c =
    let hs = c.args.thm.now.hyps in
    let all = listed c.args.order.now ++ listed hs in
    let first : AreIn c.in_ok-whole.whole.hyps all = rw c.in_ok-whole.ensures.ok (in-behind hs (listed c.args.order.now)) in
    c.discharged.ensures.hyps (listed hs) (c.in_ok-open.ensures.hyps all first (rw c.in_ok-whole.ensures.ok c.requires.each))

pub returns-clause-axioms : goal.returns-clause-axioms
returns-clause-axioms c =
    known {T = Proved} _ (λ z. axioms_of z.derivation) _ _ c.discharged.ensures.axioms
    (c.in_ok-open.ensures.axioms ∙ ap (λ t. axioms_of t.derivation) c.in_ok-whole.ensures.ok)
