use Rattle.std.proofs.Common.{◌≤◌, length, arith, refl, sym}
use Rattle.iv_rules.specs.Entries.{same_var}
use Rattle.iv_instance.proofs.Copies.{copied-on, copied-end, copied-new}
use Rattle.iv_instance.specs.Converted.{typed_entries}
use Rattle.iv_instance.proofs.Agreeing.{apart-there, entry-there, length-there}
use Rattle.iv_instance.proofs.conversion.terms_of.Goals as goal

pub loop-i-init : goal.loop-i-init
loop-i-init c = rw c.new-copy.ensures refl

pub push-requires : goal.push-requires
push-requires c =
    rw (c.in_ok-copy.ensures.ok, c.in_ok-typ.ensures.ok)
    (copied-new same_var c.loop-i.copy (typed_entries c.args.s.now.1) c.loop-i.i _ c.entry.result.1.now (apart-there c.args.s.now.1 c.len-i-end.ensures.apart)
    (entry-there c.args.s.now.1 c.loop-i.i c.entry.result.0.now c.entry.result.1.now c.entry.ensures.same) c.loop-i.invariant)

pub loop-i-preserved : goal.loop-i-preserved
loop-i-preserved c =
    let q = rw (c.in_ok-copy.ensures.ok, c.in_ok-typ.ensures.ok, c.in_ok-value.ensures.ok) at c.in_ok-push.ensures.ok in
    copied-on c.loop-i.copy _ (typed_entries c.args.s.now.1) c.loop-i.i _ (entry-there c.args.s.now.1 c.loop-i.i c.entry.result.0.now c.entry.result.1.now c.entry.ensures.same)
    c.loop-i.invariant q

pub returns-clause-ok : goal.returns-clause-ok
returns-clause-ok c =
    let past : length (typed_entries c.args.s.now.1) ≤ c.loop-i.i = (let e = c.len-i-end.ensures.same in let f = length-there c.args.s.now.1 in omega (arith, e, f)) in
    copied-end _ (typed_entries c.args.s.now.1) _ c.loop-i.invariant past
