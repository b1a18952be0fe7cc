use Rattle.std.proofs.Common.{sym}
use Rattle.iv_put.proofs.Facts.Values.{typed-push, added, no-entry}
use Rattle.iv_put.proofs.substitution.Subst.push.Goals as goal

pub push-requires : goal.push-requires
push-requires c = no-entry c.self.inside.entries c.args.name (rw (← c.self.view_is) at c.requires.new)

pub invariant_of-self-2 : goal.invariant_of-self-2
invariant_of-self-2 c = rw c.in_ok-push.ensures.ok (typed-push _ _ _ c.self.invariant (c.requires.closed, sym c.in_ok-typ.ensures.ok))

pub returns-clause-ok : goal.returns-clause-ok
returns-clause-ok c = added _ _ _ _ _ _ c.self.view_is c.in_ok-push.ensures.ok
