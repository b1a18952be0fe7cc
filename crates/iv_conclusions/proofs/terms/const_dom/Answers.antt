use Rattle.iv_conclusions.proofs.Deciding.{no-free, no-schematic, no-bound}
use Rattle.iv_conclusions.proofs.terms.const_dom.Goals as goal

pub returns-in-Free : goal.returns-in-Free
returns-in-Free c = absurd (no-free _ _ (rw c.in-Free.is at c.requires))

pub returns-in-Schematic : goal.returns-in-Schematic
returns-in-Schematic c = absurd (no-schematic _ _ (rw c.in-Schematic.is at c.requires))

pub unreachable-requires : goal.unreachable-requires
unreachable-requires c = no-bound _ (rw c.in-Bound.is at c.requires)
