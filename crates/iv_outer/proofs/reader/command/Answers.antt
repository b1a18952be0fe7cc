use Rattle.iv_outer.proofs.PlacedSteps.{placed_reading}
use Rattle.iv_outer.proofs.reader.command.Goals as goal

pub returns-clause-placed : goal.returns-clause-placed
returns-clause-placed c = placed_reading c.deep_parts_are_placed.ensures c.args.tokens.now c.in_ok-reading.reading c.requires.some (rw (c.deref.ensures.value, c.in_ok-lexemes.ensures.ok) at c.in_ok-reading.ensures.ok)
