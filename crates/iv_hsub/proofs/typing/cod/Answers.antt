use Rattle.iv_hsub.specs.Typing.{cod}
use Rattle.iv_hsub.proofs.typing.cod.Goals as goal

pub returns-in-Con : goal.returns-in-Con
unfolding cod
returns-in-Con c = rw c.in-Con.is (rw c.in-Con.is at c.second_typ.ensures)

pub returns-in-Fixed : goal.returns-in-Fixed
unfolding cod
returns-in-Fixed c = rw c.in-Fixed.is

pub returns-in-Schematic : goal.returns-in-Schematic
unfolding cod
returns-in-Schematic c = rw c.in-Schematic.is
