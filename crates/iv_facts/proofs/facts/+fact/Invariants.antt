use Rattle.std.proofs.Common.{◌≡◌, ◌+◌, ◌*◌, drop}
use Rattle.iv_recogniser.specs.declared.class.Class.TheVariants as class
use Rattle.iv_recogniser.specs.declared.class.Sort.TheVariants as sort
use Rattle.iv_facts.specs.Found.{begins, behind, many}
use Rattle.iv_facts.specs.Facts.{fact, goes_place, place_with, places_with, att_with, more_atts_with}
use Rattle.iv_facts.proofs.facts.+fact.Given as goal

abbrev pub decreases-atts : goal.decreases-atts
decreases-atts l = l.left * 8 + 7

abbrev pub decreases-more_atts : goal.decreases-more_atts
decreases-more_atts l = l.left * 8 + 6

abbrev pub decreases-att : goal.decreases-att
decreases-att l = l.left * 8 + 5

abbrev pub decreases-places_of_facts : goal.decreases-places_of_facts
decreases-places_of_facts l = l.left * 8 + 4

abbrev pub decreases-place_of_facts : goal.decreases-place_of_facts
decreases-place_of_facts l = l.left * 8 + 3

abbrev pub decreases-fact : goal.decreases-fact
decreases-fact l = l.left * 8 + 2

abbrev pub decreases-opt_atts : goal.decreases-opt_atts
decreases-opt_atts l = l.left * 8 + 1

abbrev pub decreases-inside : goal.decreases-inside
decreases-inside l = l.left * 8 + 0

abbrev pub invariant-places_of_facts-loop-step : goal.invariant-places_of_facts-loop-step
invariant-places_of_facts-loop-step l = places_with (fact l.fn.left) l.fn.tokens ≡ many goes_place (place_with (fact l.fn.left)) l.found (drop l._step-index l.tokens) l.rest

abbrev pub invariant-more_atts-loop-step : goal.invariant-more_atts-loop-step
invariant-more_atts-loop-step l = more_atts_with (fact l.fn.left) l.fn.atts l.fn.tokens ≡ many (begins (sort.Only class.Comma)) (λ us. att_with (fact l.fn.left) (behind us)) l.atts (drop l._step-index l.tokens) l.rest
