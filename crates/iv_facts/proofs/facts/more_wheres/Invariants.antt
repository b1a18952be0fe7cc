use Rattle.std.proofs.Common.{◌≡◌, drop}
use Rattle.iv_recogniser.specs.declared.class.Class.TheVariants as class
use Rattle.iv_recogniser.specs.declared.class.Sort.TheVariants as sort
use Rattle.iv_facts.specs.Found.{begins, behind, many}
use Rattle.iv_facts.specs.Facts.{where_, more_wheres}
use Rattle.iv_facts.proofs.facts.more_wheres.Given as goal

abbrev pub invariant-loop-step : goal.invariant-loop-step
invariant-loop-step l = more_wheres l.fn.wheres l.fn.tokens ≡ many (begins (sort.Only class.And)) (λ us. where_ (behind us)) l.wheres (drop l._step-index l.tokens) l.rest
