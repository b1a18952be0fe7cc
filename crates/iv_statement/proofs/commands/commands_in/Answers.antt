use Rattle.std.proofs.Common.{arith}
use Rattle.iv_statement.proofs.CommandSteps.{each_more, each_all}
use Rattle.iv_statement.proofs.commands.commands_in.Goals as goal

pub loop-piece-preserved : goal.loop-piece-preserved
loop-piece-preserved c =
    each_more _ _ c.args.pieces.now c.loop-piece.piece-index _ _ _ _ (omega arith) c.run_of.ensures c.in_ok-push.ensures.items c.loop-piece.invariant c.in_ok-read.ensures.read

pub returns-clause-read : goal.returns-clause-read
returns-clause-read c = each_all _ c.args.pieces.now _ _ (omega arith) c.loop-piece.invariant
