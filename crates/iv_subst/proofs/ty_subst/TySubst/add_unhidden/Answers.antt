use Rattle.std.proofs.Common.{◌≤◌, length, arith, sym, ◌∙◌}
use Rattle.iv_subst.proofs.Laws.Entries.{unhidden-on, hidden-on, unhidden-end, unhidden-new}
use Rattle.iv_subst.proofs.ty_subst.TySubst.add_unhidden.Goals as goal

pub loop-i-preserved-then-has : goal.loop-i-preserved-then-has
loop-i-preserved-then-has c =
    hidden-on c.args.first.now c.args.both.now c.loop-i.both c.args.self.now c.loop-i.i _ _ c.entry.ensures c.loop-i.invariant
    (sym c.has.ensures ∙ c.if-has.true)

pub push-requires : goal.push-requires
push-requires c =
    unhidden-new c.args.first.now c.args.both.now c.loop-i.both c.args.self.now c.loop-i.i _ _ _ c.entry.ensures c.loop-i.invariant
    (sym c.has.ensures ∙ c.if-has.false) c.requires c.in_ok-copy.ensures.ok

pub loop-i-preserved : goal.loop-i-preserved
loop-i-preserved c =
    let q = rw (c.in_ok-copy.ensures.ok, c.in_ok-copy-2.ensures.ok) at c.in_ok-push.ensures.ok in
    unhidden-on c.args.first.now c.args.both.now c.loop-i.both c.push.new.self c.args.self.now c.loop-i.i _ _ c.entry.ensures c.loop-i.invariant
    (sym c.has.ensures ∙ c.if-has.false) q

pub returns-clause-ok : goal.returns-clause-ok
returns-clause-ok c =
    let past : length c.args.self.now ≤ c.loop-i.i = (let e = c.len-i-end.ensures.same in omega (arith, e)) in
    unhidden-end c.args.first.now _ _ c.args.self.now _ c.loop-i.invariant past
