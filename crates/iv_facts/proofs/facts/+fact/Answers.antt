use Rattle.std.proofs.Common.{rules, arith}
use Rattle.iv_facts.proofs.Steps.{many_next}
use Rattle.iv_facts.proofs.Levels.{inside_more}
use Rattle.iv_facts.proofs.facts.+fact.Goals as goal

pub places_of_facts-loop-step-preserved : goal.places_of_facts-loop-step-preserved
places_of_facts-loop-step-preserved t c = many_next _ _ _ _ _ _ _ _ _ _ c.loop-step.invariant c.loop-step-test.true (search rules) (search rules) c.in_ok-push.ensures.ok

pub more_atts-loop-step-preserved : goal.more_atts-loop-step-preserved
more_atts-loop-step-preserved t c = many_next _ _ _ _ _ _ _ _ _ _ c.loop-step.invariant c.loop-step-test.true (search rules) (search rules) c.in_ok-push.ensures.ok

pub inside-returns-clause-ok : goal.inside-returns-clause-ok
inside-returns-clause-ok t c = rw (inside_more c.args.left c.args.tokens.now (omega arith)) c.atts.ensures.ok

pub inside-returns-clause-err : goal.inside-returns-clause-err
inside-returns-clause-err t c = rw (inside_more c.args.left c.args.tokens.now (omega arith)) c.atts.ensures.err
