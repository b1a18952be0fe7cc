use Rattle.std.proofs.Common.{◌≡◌, drop}
use Rattle.iv_recogniser.specs.declared.class.Class.TheVariants as class
use Rattle.iv_recogniser.specs.declared.class.Sort.TheVariants as sort
use Rattle.iv_facts.specs.Found.{begins, behind, many}
use Rattle.iv_readpart.specs.Declarations.{constant, and_consts}
use Rattle.iv_readpart.proofs.declarations.and_consts.Given as goal

abbrev pub invariant-loop-step : goal.invariant-loop-step
invariant-loop-step l = and_consts l.fn.found l.fn.tokens ≡ many (begins (sort.Only class.And)) (λ us. constant (behind us)) l.found (drop l._step-index l.tokens) l.rest
