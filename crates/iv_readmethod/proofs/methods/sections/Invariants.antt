use Rattle.std.proofs.Common.{◌≡◌, drop}
use Rattle.iv_facts.specs.Found.{got}
use Rattle.iv_readmethod.specs.Patterns.{named}
use Rattle.iv_readmethod.specs.Methods.{joins, more, section, sections}
use Rattle.iv_readmethod.proofs.methods.sections.Given as goal

abbrev pub invariant-loop-step : goal.invariant-loop-step
invariant-loop-step l = sections l.fn.tokens ≡ joins named section (λ xs x us. got (more xs x) us) l.found (drop l._step-index l.tokens) l.rest
