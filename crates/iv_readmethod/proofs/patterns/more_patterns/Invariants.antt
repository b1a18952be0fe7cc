use Rattle.std.proofs.Common.{◌≡◌, drop}
use Rattle.iv_recogniser.specs.declared.class.Class.TheVariants as class
use Rattle.iv_recogniser.specs.declared.class.Sort.TheVariants as sort
use Rattle.iv_facts.specs.Found.{begins, behind, many}
use Rattle.iv_readmethod.specs.Patterns.{pattern, more_patterns}
use Rattle.iv_readmethod.proofs.patterns.more_patterns.Given as goal

abbrev pub invariant-loop-step : goal.invariant-loop-step
invariant-loop-step l = more_patterns l.fn.patterns l.fn.tokens ≡ many (begins (sort.Only class.And)) (λ us. pattern (behind us)) l.patterns (drop l._step-index l.tokens) l.rest
