use Rattle.std.proofs.Common.{◌≡◌, drop}
use Rattle.iv_facts.specs.Found.{many}
use Rattle.iv_facts.specs.Facts.{goes_fact, next_fact, more_facts}
use Rattle.iv_facts.proofs.facts.more_facts.Given as goal

abbrev pub invariant-loop-step : goal.invariant-loop-step
invariant-loop-step l = more_facts l.fn.facts l.fn.tokens ≡ many goes_fact next_fact l.facts (drop l._step-index l.tokens) l.rest
