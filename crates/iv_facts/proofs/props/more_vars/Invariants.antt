use Rattle.std.proofs.Common.{◌≡◌, drop}
use Rattle.iv_recogniser.specs.declared.class.Class.TheVariants as class
use Rattle.iv_recogniser.specs.declared.class.Sort.TheVariants as sort
use Rattle.iv_facts.specs.Found.{begins, behind, many}
use Rattle.iv_facts.specs.Props.{var_group, more_vars}
use Rattle.iv_facts.proofs.props.more_vars.Given as goal

abbrev pub invariant-loop-step : goal.invariant-loop-step
invariant-loop-step l = more_vars l.fn.groups l.fn.tokens ≡ many (begins (sort.Only class.And)) (λ us. var_group (behind us)) l.groups (drop l._step-index l.tokens) l.rest
