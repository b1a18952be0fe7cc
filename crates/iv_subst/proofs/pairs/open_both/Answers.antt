use Rattle.iv_subst.proofs.Laws.Pairs.{taken-step, taken-lighter, taken-clash}
use Rattle.iv_subst.proofs.pairs.open_both.Goals as goal

pub returns-clause-step : goal.returns-clause-step
returns-clause-step c =
    taken-step _ c.args.es.now c.requires c.args.pairs.now.items c.push.new.pairs.items c.take.new.pairs.items c.args.t.now c.head-left.result.now c.args.u.now
    c.head-right.result.now c.args.ts.now c.args.us.now c.in_ok-step.step c.head-left.ensures.same c.head-right.ensures.same c.head-left.ensures.head
    c.head-right.ensures.head c.in_ok-push.ensures.ok c.in_ok-step.ensures.ok c.take.ensures.pairs c.take.ensures.assigned c.take.ensures.no_clash

pub returns-clause-lighter : goal.returns-clause-lighter
returns-clause-lighter c =
    taken-lighter _ c.args.es.now c.requires c.args.pairs.now.items c.push.new.pairs.items c.take.new.pairs.items c.args.t.now c.head-left.result.now c.args.u.now
    c.head-right.result.now c.args.ts.now c.args.us.now c.in_ok-step.step c.head-left.ensures.same c.head-right.ensures.same c.head-left.ensures.head
    c.head-right.ensures.head c.in_ok-push.ensures.ok c.in_ok-step.ensures.ok c.take.ensures.pairs c.take.ensures.no_clash

pub returns-clause-clash : goal.returns-clause-clash
returns-clause-clash c =
    taken-clash _ c.args.es.now c.requires c.args.pairs.now.items c.args.t.now c.head-left.result.now c.args.u.now
    c.head-right.result.now c.args.ts.now c.args.us.now c.in_ok-step.step c.head-left.ensures.same c.head-right.ensures.same c.head-left.ensures.head
    c.head-right.ensures.head c.in_ok-step.ensures.ok c.take.ensures.clash
