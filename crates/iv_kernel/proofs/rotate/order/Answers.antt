use Rattle.std.proofs.Common.{◌≡◌, ◌-◌, ◌∙◌, sym, ap}
use Rattle.iv_term.specs.declared.term.Terms.{Terms}
use Rattle.iv_kernel.specs.Order.{listed, removed, inserted}
use Rattle.iv_kernel.proofs.Results.{known}
use Rattle.iv_kernel.proofs.Orders.{premises-are, some-same}
use Rattle.iv_kernel.proofs.rotate.order.Goals as goal

pub returns-clause-ok : goal.returns-clause-ok
returns-clause-ok c =
    λ x g.
    let s : listed c.in_ok-subgoals.subgoals ≡ c.args.goal.now.subgoals =
    c.in_ok-subgoals.ensures.ok ∙ premises-are _ c.args.goal.now.claim _ _ c.count.ensures (c.prop.ensures.same ∙ ap (λ g. g.prop) c.thm.ensures.same ∙ c.thm.ensures.prop) in
    let o : listed c.in_ok-others.others ≡ removed (c.args.from - 1) c.args.goal.now.subgoals = c.in_ok-others.ensures.ok ∙ ap (removed (c.args.from - 1)) s in
    let e : c.subgoal.result.now ≡ x = some-same _ _ (sym c.subgoal.ensures ∙ g) in
    known {T = Terms} _ listed _ _ c.with_at.ensures.ok (λ i. inserted (c.args.to - 1) (e i) (o i))
