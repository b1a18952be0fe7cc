use Rattle.std.proofs.Common.{◌≤◌, ◌<◌, length, arith}
use Rattle.iv_list.proofs.Copies.{copied-on, copied-end}
use Rattle.iv_list.proofs.items.Items.copy.Goals as goal

pub loop-item-preserved : goal.loop-item-preserved
loop-item-preserved g c =
    let inside : c.loop-item.item-index < length c.as_slice-item-items.result.now = omega arith in
    copied-on c.loop-item.copy c.push.new.self c.as_slice-item-items.result.now c.args.self.now c.loop-item.item-index c.item-item.result _ inside
    c.item-item.is c.loop-item.invariant c.in_ok-copied.ensures.ok c.in_ok-push.ensures.ok

pub returns-clause-ok : goal.returns-clause-ok
returns-clause-ok g c =
    let past : length c.as_slice-item-items.result.now ≤ c.loop-item.item-index = omega arith in
    copied-end _ _ _ _ c.loop-item.invariant past
