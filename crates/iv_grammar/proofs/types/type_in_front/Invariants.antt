use Rattle.std.proofs.Common.{◌+◌, ◌*◌, length}
use Rattle.iv_grammar.proofs.TypeSteps.{IsReading}
use Rattle.iv_grammar.proofs.types.type_in_front.Given as goal

abbrev pub invariant-loop-none : goal.invariant-loop-none
invariant-loop-none l = record { going : IsReading l.fn.trees.items l.fn.tokens l.trees.items l.frames.items l.place l.rest }

abbrev pub decreases-loop-none : goal.decreases-loop-none
decreases-loop-none l = 2 * length l.rest + length l.frames.items
