use Rattle.std.proofs.Common.{◌≤◌, length, arith, refl}
use Rattle.iv_text.specs.Name.{same_name}
use Rattle.iv_instance.proofs.Copies.{copied-on, copied-end, copied-new}
use Rattle.iv_instance.proofs.conversion.types_of.Goals as goal

pub loop-i-init : goal.loop-i-init
loop-i-init c = rw c.new-copy.ensures refl

pub push-requires : goal.push-requires
push-requires c = rw (c.in_ok-copy.ensures.ok) (copied-new same_name c.loop-i.copy c.args.s.now c.loop-i.i c.entry.result.0.now c.entry.result.1.now c.len-i-end.ensures.apart c.entry.ensures c.loop-i.invariant)

pub loop-i-preserved : goal.loop-i-preserved
loop-i-preserved c =
    let q = rw (c.in_ok-copy.ensures.ok, c.in_ok-copy-2.ensures.ok) at c.in_ok-push.ensures.ok in
    copied-on c.loop-i.copy _ c.args.s.now c.loop-i.i (c.entry.result.0.now, c.entry.result.1.now) c.entry.ensures c.loop-i.invariant q

pub returns-clause-ok : goal.returns-clause-ok
returns-clause-ok c =
    let past : length c.args.s.now ≤ c.loop-i.i = (let e = c.len-i-end.ensures.same in omega (arith, e)) in
    copied-end _ c.args.s.now _ c.loop-i.invariant past
