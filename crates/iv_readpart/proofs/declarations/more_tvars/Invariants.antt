use Rattle.std.proofs.Common.{◌≡◌, drop}
use Rattle.iv_recogniser.specs.declared.class.Class.TheVariants as class
use Rattle.iv_recogniser.specs.declared.class.Sort.TheVariants as sort
use Rattle.iv_facts.specs.Found.{begins, behind, many}
use Rattle.iv_readpart.specs.Declarations.{tvar, more_tvars}
use Rattle.iv_readpart.proofs.declarations.more_tvars.Given as goal

abbrev pub invariant-loop-step : goal.invariant-loop-step
invariant-loop-step l = more_tvars l.fn.found l.fn.tokens ≡ many (begins (sort.Only class.Comma)) (λ us. tvar (behind us)) l.found (drop l._step-index l.tokens) l.rest
