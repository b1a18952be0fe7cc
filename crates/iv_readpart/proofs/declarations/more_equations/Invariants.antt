use Rattle.std.proofs.Common.{◌≡◌, drop}
use Rattle.iv_recogniser.specs.declared.class.Class.TheVariants as class
use Rattle.iv_recogniser.specs.declared.class.Sort.TheVariants as sort
use Rattle.iv_facts.specs.Found.{begins, behind, many}
use Rattle.iv_readpart.specs.Declarations.{equation, more_equations}
use Rattle.iv_readpart.proofs.declarations.more_equations.Given as goal

abbrev pub invariant-loop-step : goal.invariant-loop-step
invariant-loop-step l = more_equations l.fn.found l.fn.tokens ≡ many (begins (sort.Only class.And)) (λ us. equation (behind us)) l.found (drop l._step-index l.tokens) l.rest
