use Rattle.std.proofs.Common.{refl}
use Rattle.iv_term.specs.Typ.{cons_is}
use Rattle.iv_variables.specs.Variables.{typ_variables, types_variables}
use Rattle.iv_variables.proofs.Parts.{alone, found, missed}
use Rattle.iv_variables.proofs.walk.+any_in_typ.Goals as goal

pub any_in_typ-returns-in-Con : goal.any_in_typ-returns-in-Con
unfolding typ_variables
any_in_typ-returns-in-Con g t c = rw c.in-Con.is c.any_in_types.ensures

pub any_in_typ-returns-in-Fixed : goal.any_in_typ-returns-in-Fixed
unfolding typ_variables
any_in_typ-returns-in-Fixed g t c = rw c.in-Fixed.is (alone _ _ c.fixed_type.ensures)

pub any_in_typ-returns-in-Schematic : goal.any_in_typ-returns-in-Schematic
unfolding typ_variables
any_in_typ-returns-in-Schematic g t c = rw c.in-Schematic.is (alone _ _ c.schematic_type.ensures)

pub any_in_types-returns-in-Nil : goal.any_in_types-returns-in-Nil
unfolding types_variables
any_in_types-returns-in-Nil g t c = rw c.in-Nil.is refl

pub any_in_types-returns-then-any_in_typ : goal.any_in_types-returns-then-any_in_typ
unfolding types_variables
any_in_types-returns-then-any_in_typ g t c =
    rw (c.in-Cons.is, cons_is, ← c.get.ensures) (found (g.T.Test.passes c.args.test.now) _ _ _ c.any_in_typ.ensures c.if-any_in_typ.true)

pub any_in_types-returns-else-any_in_typ : goal.any_in_types-returns-else-any_in_typ
unfolding types_variables
any_in_types-returns-else-any_in_typ g t c =
    rw (c.in-Cons.is, cons_is, ← c.get.ensures, ← c.get-else-any_in_typ.ensures)
    (missed (g.T.Test.passes c.args.test.now) _ _ _ _ c.any_in_typ.ensures c.if-any_in_typ.false c.any_in_types.ensures)
