use Rattle.std.proofs.Common.{◌≡◌, drop}
use Rattle.iv_facts.specs.Found.{many}
use Rattle.iv_readpart.specs.Commands.{goes_noted, next_noted, more_noted}
use Rattle.iv_readpart.proofs.commands.more_noted.Given as goal

abbrev pub invariant-loop-step : goal.invariant-loop-step
invariant-loop-step l = more_noted l.fn.found l.fn.tokens ≡ many (goes_noted) next_noted l.found (drop l._step-index l.tokens) l.rest
