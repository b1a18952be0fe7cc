use Rattle.std.proofs.Common.{◌-◌, ◌∙◌, refl, sym, subst}
use Rattle.std.specs.List.{AllByRecursion}
use Rattle.iv_rules.specs.Sequent.{IsProp}
use Rattle.iv_kernel.specs.Goal.{OpenGoal, IsInForm}
use Rattle.iv_kernel.proofs.Results.{known}
use Rattle.iv_kernel.specs.Order.{listed}
use Rattle.iv_kernel.proofs.Orders.{premises-are, goal-of, formed, each-moved, holds-moved, length-moved, subgoals-are, listed-props, goal-in}
use Rattle.iv_kernel.proofs.goal.Goal.rotate.Goals as goal

pub reordered-requires : goal.reordered-requires
reordered-requires c =
    let ss = c.args.self.now.subgoals in
    let o = c.in_ok-order.ensures.ok _ c.subgoal-moved.ensures in
    let props = holds-moved IsProp _ (c.args.from - 1) (c.args.to - 1) ss c.subgoal-moved.ensures (subgoals-are c.parts_of_propositions.ensures.imp ss c.args.self.now.claim (subst IsProp c.thm.ensures.prop (rw c.thm.ensures.same at c.prop-prop.ensures.prop))) in
    record {
      goal = rw (c.count.ensures, c.thm-2.ensures.same, c.claim.ensures) (goal-of ss _ _ _ refl c.thm.ensures.prop);
      props = listed-props _ (subst (AllByRecursion IsProp) (sym o) props);
      each = rw (c.count.ensures, c.thm-2.ensures.same, premises-are ss _ _ _ refl c.thm.ensures.prop, o) (each-moved _ (c.args.from - 1) (c.args.to - 1) ss (listed c.args.self.now.thm.hyps) c.subgoal-moved.ensures);
    }

pub made-requires : goal.made-requires
made-requires c =
    let ss = c.args.self.now.subgoals in
    let g = c.subgoal-moved.ensures in
    let o = c.in_ok-order.ensures.ok _ g in
    rw (c.count-2.ensures, c.claim-2.ensures)
    (formed _ _ _ _ (sym (length-moved _ (c.args.from - 1) (c.args.to - 1) ss g)) (rw (o, c.claim.ensures) at c.in_ok-thm.ensures.prop)
    (holds-moved IsInForm _ (c.args.from - 1) (c.args.to - 1) ss g c.thm.ensures.form))

pub returns-clause-subgoals : goal.returns-clause-subgoals
returns-clause-subgoals c =
    λ x g.
    let ss = c.args.self.now.subgoals in
    let o = c.in_ok-order.ensures.ok x g in
    known {T = OpenGoal} _ (λ z. z.subgoals) _ _ c.made.ensures.subgoals
    (premises-are _ _ _ _ (c.count-2.ensures ∙ sym (length-moved x (c.args.from - 1) (c.args.to - 1) ss g)) (rw (o, c.claim.ensures) at c.in_ok-thm.ensures.prop))

pub returns-clause-among : goal.returns-clause-among
returns-clause-among c = goal-in _ _ _ c.made.ensures.thm (rw c.thm-2.ensures.same at c.in_ok-thm.ensures.hyps)
