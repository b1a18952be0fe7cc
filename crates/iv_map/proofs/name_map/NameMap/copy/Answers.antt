use Rattle.std.proofs.Common.{◌≤◌, length, arith}
use Rattle.iv_map.proofs.Entries.{copied-name, copied-on, copied-end}
use Rattle.iv_map.proofs.name_map.NameMap.copy.Goals as goal

pub push-requires : goal.push-requires
push-requires g c =
    copied-name c.loop-i.copy c.args.self.now c.loop-i.i _ _ c.entry.ensures c.loop-i.invariant c.in_ok-copy.ensures.ok c.len-i-end.ensures.apart

pub loop-i-preserved : goal.loop-i-preserved
loop-i-preserved g c =
    let grown = rw (c.in_ok-copy.ensures.ok, c.in_ok-copied.ensures.ok) at c.in_ok-push.ensures.ok in
    copied-on c.loop-i.copy c.push.new.self c.args.self.now c.loop-i.i _ c.entry.ensures c.loop-i.invariant grown

pub returns-clause-ok : goal.returns-clause-ok
returns-clause-ok g c =
    let past : length c.args.self.now ≤ c.loop-i.i = (let e = c.len-i-end.ensures.same in omega (arith, e)) in
    copied-end _ _ _ c.loop-i.invariant past
