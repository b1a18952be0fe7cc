use Rattle.std.proofs.Common.{◌≤◌, ◌∙◌, sym, length, [], arith}
use Rattle.iv_subst.specs.TySubst.{at}
use Rattle.iv_subst.specs.Solved.{solved}
use Rattle.iv_subst.proofs.Laws.Entries.{under-on, under-end, under-new, apart-under}
use Rattle.iv_subst.proofs.puts.spread.Goals as goal

pub push-requires : goal.push-requires
push-requires c =
    under-new (at (solved c.args.es.now)) [] c.loop-i.all c.args.es.now c.loop-i.i _ _ _ c.entry.ensures c.loop-i.invariant
    (apart-under (at (solved c.args.es.now)) c.args.es.now c.len-i-end.ensures.apart) c.in_ok-copy.ensures.ok

pub loop-i-preserved : goal.loop-i-preserved
loop-i-preserved c =
    let q = rw c.in_ok-copy.ensures.ok at c.in_ok-push.ensures.ok in
    under-on (at (solved c.args.es.now)) [] c.loop-i.all c.push.new.self c.args.es.now c.loop-i.i _ _ _ c.entry.ensures c.loop-i.invariant
    (c.in_ok-new_or_copy.ensures.ok ∙ c.in_ok-new.ensures.ok) q

pub returns-clause-ok : goal.returns-clause-ok
returns-clause-ok c =
    let past : length c.args.es.now ≤ c.loop-i.i = (let e = c.len-i-end.ensures.same in omega (arith, e)) in
    under-end (at (solved c.args.es.now)) [] _ c.args.es.now _ c.loop-i.invariant past ∙ sym c.requires.fixed
