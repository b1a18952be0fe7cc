use Rattle.std.proofs.Common.{◌∙◌, sym}
use Rattle.iv_subst.proofs.Laws.Heads.{link-rank, link-same, link-head}
use Rattle.iv_subst.proofs.heads.head.Goals as goal

pub loop-next-preserved : goal.loop-next-preserved
loop-next-preserved c = link-same c.args.es.now c.requires c.loop-next.current.now c.in-Some.next.now (sym c.in-Some.ensures) ∙ c.loop-next.invariant

pub loop-next-smaller : goal.loop-next-smaller
loop-next-smaller c = link-rank c.args.es.now c.requires c.loop-next.current.now c.in-Some.next.now (sym c.in-Some.ensures)

pub returns-clause-head : goal.returns-clause-head
returns-clause-head c = link-head c.args.es.now c.loop-next.current.now (sym c.in_default.ensures)
