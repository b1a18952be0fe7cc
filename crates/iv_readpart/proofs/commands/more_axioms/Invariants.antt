use Rattle.std.proofs.Common.{◌≡◌, drop}
use Rattle.iv_recogniser.specs.declared.class.Class.TheVariants as class
use Rattle.iv_recogniser.specs.declared.class.Sort.TheVariants as sort
use Rattle.iv_facts.specs.Found.{begins, behind, many}
use Rattle.iv_readpart.specs.Commands.{an_axiom, more_axioms}
use Rattle.iv_readpart.proofs.commands.more_axioms.Given as goal

abbrev pub invariant-loop-step : goal.invariant-loop-step
invariant-loop-step l = more_axioms l.fn.found l.fn.tokens ≡ many (begins (sort.Only class.And)) (λ us. an_axiom (behind us)) l.found (drop l._step-index l.tokens) l.rest
