use Rattle.std.proofs.Common.{◌≡◌, drop}
use Rattle.iv_recogniser.specs.declared.class.Class.TheVariants as class
use Rattle.iv_recogniser.specs.declared.class.Sort.TheVariants as sort
use Rattle.iv_facts.specs.Found.{begins, behind, many}
use Rattle.iv_facts.specs.Facts.{sel, more_sels}
use Rattle.iv_facts.proofs.facts.more_sels.Given as goal

abbrev pub invariant-loop-step : goal.invariant-loop-step
invariant-loop-step l = more_sels l.fn.sels l.fn.tokens ≡ many (begins (sort.Only class.Comma)) (λ us. sel (behind us)) l.sels (drop l._step-index l.tokens) l.rest
