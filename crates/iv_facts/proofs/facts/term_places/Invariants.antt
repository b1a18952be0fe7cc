use Rattle.std.proofs.Common.{◌≡◌, drop}
use Rattle.iv_facts.specs.Found.{many}
use Rattle.iv_facts.specs.Facts.{goes_term_place, term_place, term_places}
use Rattle.iv_facts.proofs.facts.term_places.Given as goal

abbrev pub invariant-loop-step : goal.invariant-loop-step
invariant-loop-step l = term_places l.fn.tokens ≡ many goes_term_place term_place l.found (drop l._step-index l.tokens) l.rest
