use Rattle.std.proofs.Common.{◌≡◌, drop}
use Rattle.iv_facts.specs.Found.{fold}
use Rattle.iv_readpart.specs.Commands.{begins_part, part, parts}
use Rattle.iv_readpart.proofs.commands.parts.Given as goal

abbrev pub invariant-loop-step : goal.invariant-loop-step
invariant-loop-step l = parts l.fn.tokens ≡ fold begins_part part l.found (drop l._step-index l.tokens) l.rest
