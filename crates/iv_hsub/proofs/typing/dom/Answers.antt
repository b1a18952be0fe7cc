use Rattle.iv_hsub.specs.Typing.{dom}
use Rattle.iv_hsub.proofs.typing.dom.Goals as goal

pub returns-in-Con : goal.returns-in-Con
unfolding dom
returns-in-Con c = rw c.in-Con.is (rw c.in-Con.is at c.first_typ.ensures)

pub returns-in-Fixed : goal.returns-in-Fixed
unfolding dom
returns-in-Fixed c = rw c.in-Fixed.is

pub returns-in-Schematic : goal.returns-in-Schematic
unfolding dom
returns-in-Schematic c = rw c.in-Schematic.is
