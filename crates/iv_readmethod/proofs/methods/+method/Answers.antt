use Rattle.std.proofs.Common.{rules, arith}
use Rattle.iv_readmethod.proofs.Joins.{joins_joined, joins_refused, lists_next, inside_more, stop_exit}
use Rattle.iv_readmethod.proofs.methods.+method.Goals as goal

pub args-loop-step-preserved : goal.args-loop-step-preserved
args-loop-step-preserved t c = lists_next _ _ _ _ _ _ _ _ _ _ c.loop-step.invariant c.loop-step-test.true (search rules) (search rules) c.in_ok-more.ensures.ok

pub more_cases-loop-step-preserved : goal.more_cases-loop-step-preserved
more_cases-loop-step-preserved t c = lists_next _ _ _ _ _ _ _ _ _ _ c.loop-step.invariant c.loop-step-test.true (search rules) (search rules) c.in_ok-more.ensures.ok

pub inside-returns-clause-ok : goal.inside-returns-clause-ok
inside-returns-clause-ok t c = rw (inside_more c.args.left c.args.tokens.now (omega arith)) c.linked.ensures.ok

pub inside-returns-clause-err : goal.inside-returns-clause-err
inside-returns-clause-err t c = rw (inside_more c.args.left c.args.tokens.now (omega arith)) c.linked.ensures.err

pub linked-loop-step-preserved : goal.linked-loop-step-preserved
linked-loop-step-preserved t c =
    joins_joined _ _ _ _ _ _ _ _ c.in_ok-both.after.now _ c.loop-step.invariant c.loop-step-test.true (search rules) (rw (← c.behind.ensures) c.in_ok-both.ensures.ok)

pub linked-returns-in_err-both-clause-err : goal.linked-returns-in_err-both-clause-err
linked-returns-in_err-both-clause-err t c =
    stop_exit _ _ _ c.from_residual-in_err-both.ensures.1
    (rw c.loop-step.invariant (joins_refused _ _ _ _ _ _ _ _ c.loop-step-test.true (search rules) (rw (← c.behind.ensures) c.in_err-both.ensures.err)))
