use Rattle.std.proofs.Common.{◌≡◌, drop}
use Rattle.iv_recogniser.specs.declared.class.Sort.TheVariants as sort
use Rattle.iv_facts.specs.Found.{begins, many}
use Rattle.iv_facts.specs.Props.{prop, more_props}
use Rattle.iv_facts.proofs.props.more_props.Given as goal

abbrev pub invariant-loop-step : goal.invariant-loop-step
invariant-loop-step l = more_props l.fn.props l.fn.tokens ≡ many (begins sort.Term) prop l.props (drop l._step-index l.tokens) l.rest
