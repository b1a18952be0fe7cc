use Rattle.std.proofs.Common.{refl}
use Rattle.iv_term.specs.Typ.{cons_is}
use Rattle.iv_sig.specs.Conditions.{has_variable, any_has_variable}
use Rattle.iv_sig.proofs.conditions.+has_variable.Goals as goal

pub has_variable-returns-in-Con : goal.has_variable-returns-in-Con
unfolding has_variable
has_variable-returns-in-Con t c = rw c.in-Con.is c.any_has_variable.ensures

pub has_variable-returns-in-Fixed : goal.has_variable-returns-in-Fixed
unfolding has_variable
has_variable-returns-in-Fixed t c = rw c.in-Fixed.is refl

pub has_variable-returns-in-Schematic : goal.has_variable-returns-in-Schematic
unfolding has_variable
has_variable-returns-in-Schematic t c = rw c.in-Schematic.is refl

pub any_has_variable-returns-in-Nil : goal.any_has_variable-returns-in-Nil
unfolding any_has_variable
any_has_variable-returns-in-Nil t c = rw c.in-Nil.is refl

pub any_has_variable-returns-then-has_variable : goal.any_has_variable-returns-then-has_variable
unfolding any_has_variable
any_has_variable-returns-then-has_variable t c = rw (c.in-Cons.is, cons_is, ← c.get.ensures, ← c.has_variable.ensures, c.if-has_variable.true) refl

pub any_has_variable-returns-else-has_variable : goal.any_has_variable-returns-else-has_variable
unfolding any_has_variable
any_has_variable-returns-else-has_variable t c =
    rw (c.in-Cons.is, cons_is, ← c.get.ensures, ← c.has_variable.ensures, c.if-has_variable.false, ← c.get-else-has_variable.ensures) c.any_has_variable.ensures
