use Rattle.std.proofs.Common.{refl}
use Rattle.iv_term.specs.Typ.{cons_is}
use Rattle.iv_variables.specs.Variables.{typ_variables, types_variables}
use Rattle.iv_variables.proofs.Parts.{stepped, at_one, of_first, of_second}
use Rattle.iv_variables.proofs.walk.+each_in_typ.Goals as goal

pub each_in_typ-returns-in-Con-clause-ok : goal.each_in_typ-returns-in-Con-clause-ok
unfolding typ_variables
each_in_typ-returns-in-Con-clause-ok g t c = rw c.in-Con.is c.each_in_types.ensures.ok

pub each_in_typ-returns-in-Con-clause-err : goal.each_in_typ-returns-in-Con-clause-err
unfolding typ_variables
each_in_typ-returns-in-Con-clause-err g t c = rw c.in-Con.is c.each_in_types.ensures.err

pub each_in_typ-returns-in-Fixed-clause-ok : goal.each_in_typ-returns-in-Fixed-clause-ok
unfolding typ_variables
each_in_typ-returns-in-Fixed-clause-ok g t c = rw c.in-Fixed.is c.fixed_type.ensures.ok

pub each_in_typ-returns-in-Fixed-clause-err : goal.each_in_typ-returns-in-Fixed-clause-err
unfolding typ_variables
each_in_typ-returns-in-Fixed-clause-err g t c =
    rw c.in-Fixed.is (at_one g.V.Visitor.fails c.fixed_type.result _ c.fixed_type.ensures.err)

pub each_in_typ-returns-in-Schematic-clause-ok : goal.each_in_typ-returns-in-Schematic-clause-ok
unfolding typ_variables
each_in_typ-returns-in-Schematic-clause-ok g t c = rw c.in-Schematic.is c.schematic_type.ensures.ok

pub each_in_typ-returns-in-Schematic-clause-err : goal.each_in_typ-returns-in-Schematic-clause-err
unfolding typ_variables
each_in_typ-returns-in-Schematic-clause-err g t c =
    rw c.in-Schematic.is (at_one g.V.Visitor.fails c.schematic_type.result _ c.schematic_type.ensures.err)

pub each_in_types-returns-in_err-each_in_typ-in-Cons-clause-err : goal.each_in_types-returns-in_err-each_in_typ-in-Cons-clause-err
unfolding types_variables
each_in_types-returns-in_err-each_in_typ-in-Cons-clause-err g t c =
    rw (c.in-Cons.is, cons_is, ← c.get.ensures) (of_first g.V.Visitor.fails c.from_residual.result _ _ _ c.from_residual.ensures.1 c.in_err-each_in_typ-in-Cons.ensures.err)

pub each_in_types-returns-in_ok-each_in_typ-in-Cons-clause-ok : goal.each_in_types-returns-in_ok-each_in_typ-in-Cons-clause-ok
unfolding types_variables
each_in_types-returns-in_ok-each_in_typ-in-Cons-clause-ok g t c =
    rw (c.in-Cons.is, cons_is, ← c.get.ensures, ← c.get-in-Cons.ensures) (stepped c.each_in_types.result g.V.Visitor.step c.args.visitor.now c.each_in_typ.new.visitor c.each_in_types.new.visitor (typ_variables c.get.result.now) (types_variables c.get-in-Cons.result.now) c.in_ok-each_in_typ-in-Cons.ensures.ok c.each_in_types.ensures.ok)

pub each_in_types-returns-in_ok-each_in_typ-in-Cons-clause-err : goal.each_in_types-returns-in_ok-each_in_typ-in-Cons-clause-err
unfolding types_variables
each_in_types-returns-in_ok-each_in_typ-in-Cons-clause-err g t c =
    rw (c.in-Cons.is, cons_is, ← c.get.ensures, ← c.get-in-Cons.ensures) (of_second g.V.Visitor.fails c.each_in_types.result _ _ c.each_in_types.ensures.err)

pub each_in_types-returns-in-Nil-clause-ok : goal.each_in_types-returns-in-Nil-clause-ok
unfolding types_variables
each_in_types-returns-in-Nil-clause-ok g t c = rw c.in-Nil.is refl
