use Rattle.std.proofs.Common.{◌≤◌, length, arith, refl, sym, ap, ◌∙◌}
use Rattle.iv_put.proofs.Facts.Apart.{unhidden-new}
use Rattle.iv_put.proofs.Facts.Loops.{unhidden-pushed, unhidden-passed, unhidden-end}
use Rattle.iv_put.proofs.substitution.Subst.add_unhidden.Goals as goal

pub loop-i-init : goal.loop-i-init
loop-i-init c = (refl, refl)

pub loop-i-preserved-then-has : goal.loop-i-preserved-then-has
loop-i-preserved-then-has c =
    (c.loop-i.invariant.0, unhidden-passed c.args.first.now.1 c.loop-i.both.1 c.args.self.now.1 c.loop-i.i c.entry.result.0.now c.entry.result.1.now (sym c.has.ensures ∙ c.if-has.true) c.entry.ensures.same ∙ c.loop-i.invariant.1)

pub push-requires-clause-new : goal.push-requires-clause-new
push-requires-clause-new c =
    unhidden-new c.args.first.now.1 c.args.both.now.1 c.loop-i.both.1 c.args.self.now.1 c.loop-i.i _ _ _ c.entry.ensures.same c.loop-i.invariant.1
    (sym c.has.ensures ∙ c.if-has.false) c.requires c.in_ok-copy.ensures.ok

pub loop-i-preserved : goal.loop-i-preserved
loop-i-preserved c =
    let q = rw (c.in_ok-copy.ensures.ok, c.in_ok-value.ensures.ok) at c.in_ok-push.ensures.ok in (
      ap (λ s. s.0) q ∙ c.loop-i.invariant.0,
      unhidden-pushed c.args.first.now.1 _ _ c.args.self.now.1 c.loop-i.i c.entry.result.0.now c.entry.result.1.now (sym c.has.ensures ∙ c.if-has.false) (ap (λ s. s.1) q) c.entry.ensures.same ∙ c.loop-i.invariant.1,
    )

pub returns-clause-ok : goal.returns-clause-ok
returns-clause-ok c =
    let past : length c.args.self.now.1 ≤ c.loop-i.i = (let e = c.len-i-end.ensures.same in omega (arith, e)) in
    unhidden-end _ _ _ _ _ c.loop-i.invariant.0 c.loop-i.invariant.1 past
