use Rattle.std.proofs.Common.{◌≡◌, drop}
use Rattle.iv_readpart.specs.Commands.{names_ahead}
use Rattle.iv_readpart.proofs.commands.names_ahead.Given as goal

abbrev pub invariant-loop-token : goal.invariant-loop-token
invariant-loop-token l = names_ahead l.fn.tokens ≡ names_ahead (drop l.token-index l.tokens)
