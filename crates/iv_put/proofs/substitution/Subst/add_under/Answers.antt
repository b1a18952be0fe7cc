use Rattle.std.proofs.Common.{◌≤◌, length, arith}
use Rattle.iv_term.specs.declared.typ.Typ.TheBlock.{Nil}
use Rattle.iv_subst.specs.TySubst.{put_typs}
use Rattle.iv_put.proofs.Facts.Apart.{under-new}
use Rattle.iv_put.proofs.Facts.Loops.{under-begun, under-can, under-on, under-end}
use Rattle.iv_put.proofs.substitution.Subst.add_under.Goals as goal

pub loop-i-init : goal.loop-i-init
loop-i-init c = under-begun _ _ _ c.requires.fits

pub push-requires-clause-new : goal.push-requires-clause-new
push-requires-clause-new c = under-new _ _ _ _ _ _ _ _ c.loop-i.invariant c.entry.ensures.same c.requires.apart c.in_ok-copy.ensures.ok

pub push-requires-clause-closed : goal.push-requires-clause-closed
unfolding put_typs
push-requires-clause-closed c = (c.in_ok-value.ensures.typed Nil c.entry.ensures.closed (under-can _ _ _ _ _ _ _ c.loop-i.invariant c.entry.ensures.same)).0

pub loop-i-preserved : goal.loop-i-preserved
loop-i-preserved c =
    let q = rw c.in_ok-copy.ensures.ok at c.in_ok-push.ensures.ok in
    under-on _ _ _ _ _ _ _ _ _ c.loop-i.invariant c.entry.ensures.same c.in_ok-value.ensures.ok q

pub returns-clause-ok : goal.returns-clause-ok
returns-clause-ok c =
    let past : length c.args.self.now.1 ≤ c.loop-i.i = (let e = c.len-i-end.ensures.same in omega (arith, e)) in
    under-end _ _ _ _ _ c.loop-i.invariant past
