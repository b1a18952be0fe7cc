use Rattle.std.proofs.Common.{◌<◌, ◌≤◌, length, ap, sym, ◌∙◌, arith}
use Rattle.std.specs.Map.{lookup}
use Rattle.std.specs.Str.{bytes_eq}
use Rattle.iv_rules.proofs.Lists.{look-here, look-on, look-end}
use Rattle.iv_rules.proofs.instance.FixedTypes.get.Goals as goal

pub loop-entry-init : goal.loop-entry-init
loop-entry-init c = rw c.as_slice-entry-items.ensures (ap (λ s. lookup (λ k. bytes_eq k c.args.name.now) s) (sym c.self.view_is))

pub returns-then-is : goal.returns-then-is
returns-then-is c =
    let inside : c.loop-entry.entry-index < length c.as_slice-entry-items.result.now = omega arith in
    look-here _ _ _ _ c.entry-item.result c.loop-entry.invariant inside c.entry-item.is (sym c.is.ensures.same ∙ c.if-is.true)

pub loop-entry-preserved : goal.loop-entry-preserved
loop-entry-preserved c =
    let inside : c.loop-entry.entry-index < length c.as_slice-entry-items.result.now = omega arith in
    look-on _ _ _ _ c.entry-item.result c.loop-entry.invariant inside c.entry-item.is (sym c.is.ensures.same ∙ c.if-is.false)

pub returns : goal.returns
returns c =
    let past : length c.as_slice-entry-items.result.now ≤ c.loop-entry.entry-index = omega arith in
    look-end _ _ _ _ c.loop-entry.invariant past
