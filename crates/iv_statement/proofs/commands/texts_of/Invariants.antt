use Rattle.std.proofs.Common.{◌≡◌, take}
use Rattle.iv_statement.specs.Command.{texts_of}
use Rattle.iv_statement.proofs.commands.texts_of.Given as goal

abbrev pub invariant-loop-token : goal.invariant-loop-token
invariant-loop-token l = l.texts ≡ texts_of (take l.token-index l.tokens)
