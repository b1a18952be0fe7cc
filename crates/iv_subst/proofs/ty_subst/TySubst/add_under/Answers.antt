use Rattle.std.proofs.Common.{◌≤◌, length, arith}
use Rattle.iv_subst.specs.TySubst.{at}
use Rattle.iv_subst.proofs.Laws.Entries.{under-on, under-end, under-new}
use Rattle.iv_subst.proofs.ty_subst.TySubst.add_under.Goals as goal

pub push-requires : goal.push-requires
push-requires c =
    under-new (at c.args.next.now) c.args.both.now c.loop-i.both c.args.self.now c.loop-i.i _ _ _ c.entry.ensures c.loop-i.invariant c.requires c.in_ok-copy.ensures.ok

pub loop-i-preserved : goal.loop-i-preserved
loop-i-preserved c =
    let q = rw c.in_ok-copy.ensures.ok at c.in_ok-push.ensures.ok in
    under-on (at c.args.next.now) c.args.both.now c.loop-i.both c.push.new.self c.args.self.now c.loop-i.i _ _ _ c.entry.ensures c.loop-i.invariant c.in_ok-typ.ensures.ok q

pub returns-clause-ok : goal.returns-clause-ok
returns-clause-ok c =
    let past : length c.args.self.now ≤ c.loop-i.i = (let e = c.len-i-end.ensures.same in omega (arith, e)) in
    under-end (at c.args.next.now) _ _ c.args.self.now _ c.loop-i.invariant past
