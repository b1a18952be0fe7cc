use Rattle.std.proofs.Common.{◌≡◌, drop}
use Rattle.iv_recogniser.specs.declared.class.Class.TheVariants as class
use Rattle.iv_recogniser.specs.declared.class.Sort.TheVariants as sort
use Rattle.iv_facts.specs.Found.{begins, behind, many}
use Rattle.iv_readpart.specs.Commands.{note_group, more_notes}
use Rattle.iv_readpart.proofs.commands.more_notes.Given as goal

abbrev pub invariant-loop-step : goal.invariant-loop-step
invariant-loop-step l = more_notes l.fn.found l.fn.tokens ≡ many (begins (sort.Only class.And)) (λ us. note_group (behind us)) l.found (drop l._step-index l.tokens) l.rest
