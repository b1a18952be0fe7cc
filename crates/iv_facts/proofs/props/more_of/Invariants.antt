use Rattle.std.proofs.Common.{◌≡◌, drop}
use Rattle.iv_facts.specs.Found.{begins, many}
use Rattle.iv_facts.specs.Props.{text_of, more_of}
use Rattle.iv_facts.proofs.props.more_of.Given as goal

abbrev pub invariant-loop-step : goal.invariant-loop-step
invariant-loop-step l = more_of l.fn.sort l.fn.found l.fn.tokens ≡ many (begins l.sort) (text_of l.sort) l.found (drop l._step-index l.tokens) l.rest
