use Rattle.std.proofs.Common.{◌≤◌, length, arith}
use Rattle.iv_put.specs.Subst.{CanApply}
use Rattle.iv_put.proofs.Facts.Values.{values-no, values-on, values-end}
use Rattle.iv_put.proofs.substitution.Subst.can_compose.Goals as goal

pub loop-i-init : goal.loop-i-init
loop-i-init c = (λ h. h, λ h. h)

pub returns-then-not-can_apply : goal.returns-then-not-can_apply
returns-then-not-can_apply c = values-no _ (CanApply c.args.next.now) _ c.loop-i.i _ _ _ c.entry.ensures.same c.loop-i.invariant.0 c.can_apply.ensures c.if-not-can_apply.true

pub loop-i-preserved : goal.loop-i-preserved
loop-i-preserved c = values-on _ (CanApply c.args.next.now) _ c.loop-i.i _ _ c.entry.ensures.same c.loop-i.invariant (c.can_apply.ensures.0 c.if-not-can_apply.false)

pub returns : goal.returns
returns c =
    let past : length c.args.self.now.1 ≤ c.loop-i.i = (let e = c.len-i-end.ensures.same in omega (arith, e)) in
    values-end _ (CanApply c.args.next.now) _ c.loop-i.i c.loop-i.invariant.1 past
