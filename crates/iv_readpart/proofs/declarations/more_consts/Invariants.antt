use Rattle.std.proofs.Common.{◌≡◌, drop}
use Rattle.iv_recogniser.specs.declared.class.Sort.TheVariants as sort
use Rattle.iv_facts.specs.Found.{begins, many}
use Rattle.iv_readpart.specs.Declarations.{constant, more_consts}
use Rattle.iv_readpart.proofs.declarations.more_consts.Given as goal

abbrev pub invariant-loop-step : goal.invariant-loop-step
invariant-loop-step l = more_consts l.fn.found l.fn.tokens ≡ many (begins sort.Identifier) constant l.found (drop l._step-index l.tokens) l.rest
