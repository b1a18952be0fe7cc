use Rattle.std.proofs.Common.{◌<◌, ◌≤◌, length, ap, sym, ◌∙◌, arith}
use Rattle.std.specs.Map.{lookup}
use Rattle.iv_rules.specs.Entries.{same_var}
use Rattle.iv_rules.proofs.Lists.{look-here, look-on, look-end}
use Rattle.iv_rules.proofs.instance.VarTerms.get.Goals as goal

pub loop-entry-init : goal.loop-entry-init
loop-entry-init c = rw c.as_slice-entry-items.ensures (ap (λ s. lookup (λ k. same_var k (c.args.name.now, c.args.typ.now)) s) (sym c.self.view_is))

pub returns-then-is_var : goal.returns-then-is_var
returns-then-is_var c =
    let inside : c.loop-entry.entry-index < length c.as_slice-entry-items.result.now = omega arith in
    look-here _ _ _ _ c.entry-item.result c.loop-entry.invariant inside c.entry-item.is (sym c.is_var.ensures ∙ c.if-is_var.true)

pub loop-entry-preserved : goal.loop-entry-preserved
loop-entry-preserved c =
    let inside : c.loop-entry.entry-index < length c.as_slice-entry-items.result.now = omega arith in
    look-on _ _ _ _ c.entry-item.result c.loop-entry.invariant inside c.entry-item.is (sym c.is_var.ensures ∙ c.if-is_var.false)

pub returns : goal.returns
returns c =
    let past : length c.as_slice-entry-items.result.now ≤ c.loop-entry.entry-index = omega arith in
    look-end _ _ _ _ c.loop-entry.invariant past
