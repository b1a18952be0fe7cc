use Rattle.std.proofs.Common.{◌≤◌, length, arith, refl}
use Rattle.iv_sig.proofs.Entries.{copied-name, copied-on, copied-end}
use Rattle.iv_sig.proofs.table.Table.copy.Goals as goal

pub push_copy-requires : goal.push_copy-requires
push_copy-requires g c =
    copied-name c.loop-i.copy c.args.self.now c.loop-i.i _ _ c.at.ensures c.loop-i.invariant refl c.names_differ.ensures

pub loop-i-preserved : goal.loop-i-preserved
loop-i-preserved g c =
    copied-on c.loop-i.copy c.push_copy.new.self c.args.self.now c.loop-i.i _ c.at.ensures c.loop-i.invariant c.in_ok-push_copy.ensures.ok

pub returns-clause-ok : goal.returns-clause-ok
returns-clause-ok g c =
    let past : length c.args.self.now ≤ c.loop-i.i = omega arith in
    copied-end _ _ _ c.loop-i.invariant past
