use Rattle.std.proofs.Common.{◌≤◌, length, arith}
use Rattle.iv_conclusions.proofs.Facts.{typed-no, typed-on, typed-end}
use Rattle.iv_conclusions.proofs.values.are_typed.Goals as goal

pub loop-i-init : goal.loop-i-init
loop-i-init c = (λ h. h, λ h. h)

pub returns-then-not-has_type : goal.returns-then-not-has_type
returns-then-not-has_type c = typed-no _ c.loop-i.i _ _ _ _ c.entry.ensures c.loop-i.invariant.0 c.has_type.ensures c.if-not-has_type.true

pub loop-i-preserved : goal.loop-i-preserved
loop-i-preserved c = typed-on _ c.loop-i.i _ _ _ c.entry.ensures c.loop-i.invariant (c.has_type.ensures.0 c.if-not-has_type.false)

pub returns : goal.returns
returns c =
    let past : length c.args.values.now ≤ c.loop-i.i = (let e = c.len-i-end.ensures.same in omega (arith, e)) in
    typed-end _ c.loop-i.i c.loop-i.invariant.1 past
