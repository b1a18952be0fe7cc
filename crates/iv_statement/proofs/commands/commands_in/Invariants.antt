use Rattle.std.proofs.Common.{map, take}
use Rattle.iv_statement.specs.Command.{run_of, AreEach, IsRead}
use Rattle.iv_statement.proofs.commands.commands_in.Given as goal

abbrev pub invariant-loop-piece : goal.invariant-loop-piece
invariant-loop-piece l = AreEach IsRead (map (run_of l.tokens) (take l.piece-index l.pieces)) l.found.items
