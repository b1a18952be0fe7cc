use Rattle.iv_subst.specs.Solved.{solved}
use Rattle.iv_subst.proofs.Laws.Solve.{ok-equal, ok-solved, clash-none}
use Rattle.iv_subst.proofs.solved.Solved.unify.Goals as goal

pub returns-clause-equal : goal.returns-clause-equal
returns-clause-equal c =
    ok-equal c.unify.result c.args.a.now c.args.b.now (solved c.self.inside.entries) (solved c.unify.new.es) c.unify.ensures.ok

pub returns-clause-most_general : goal.returns-clause-most_general
returns-clause-most_general c =
    rw (← c.self.view_is) (ok-solved c.unify.result c.args.a.now c.args.b.now (solved c.self.inside.entries) (solved c.unify.new.es) c.unify.ensures.ok)

pub returns-clause-no_unifier : goal.returns-clause-no_unifier
returns-clause-no_unifier c =
    rw (← c.self.view_is) (clash-none c.unify.result c.args.a.now c.args.b.now (solved c.self.inside.entries) c.unify.ensures.clash)
