use Rattle.iv_variables.proofs.Parts.{at_first, at_rest}
use Rattle.iv_variables.proofs.walk.each_in_head.Goals as goal

pub returns-in_err-free-in-Free-clause-err : goal.returns-in_err-free-in-Free-clause-err
returns-in_err-free-in-Free-clause-err g c =
    rw c.in-Free.is (at_first g.V.Visitor.fails c.from_residual.result _ _ _ c.from_residual.ensures.1 c.in_err-free-in-Free.ensures.err)

pub returns-in_err-schematic-in-Schematic-clause-err : goal.returns-in_err-schematic-in-Schematic-clause-err
returns-in_err-schematic-in-Schematic-clause-err g c =
    rw c.in-Schematic.is
    (at_first g.V.Visitor.fails c.from_residual-in_err-schematic-in-Schematic.result _ _ _ c.from_residual-in_err-schematic-in-Schematic.ensures.1
    c.in_err-schematic-in-Schematic.ensures.err)

pub returns-in_ok-free-in-Free-clause-err : goal.returns-in_ok-free-in-Free-clause-err
returns-in_ok-free-in-Free-clause-err g c = rw c.in-Free.is (at_rest g.V.Visitor.fails c.each_in_typ-in-Free.result _ _ c.each_in_typ-in-Free.ensures.err)

pub returns-in_ok-schematic-in-Schematic-clause-err : goal.returns-in_ok-schematic-in-Schematic-clause-err
returns-in_ok-schematic-in-Schematic-clause-err g c =
    rw c.in-Schematic.is (at_rest g.V.Visitor.fails c.each_in_typ-in-Schematic.result _ _ c.each_in_typ-in-Schematic.ensures.err)
