use Rattle.std.proofs.Common.{refl, sym, ◌∙◌}
use Rattle.iv_term.specs.Typ.{cons_is}
use Rattle.iv_kernel.specs.Schematics.{is_open, are_open}
use Rattle.iv_kernel.proofs.Variables.{open-here, open-there}
use Rattle.iv_kernel.proofs.schematics.+is_open.Goals as goal

pub is_open-returns-in-Con : goal.is_open-returns-in-Con
unfolding is_open
is_open-returns-in-Con t c = rw c.in-Con.is c.are_open.ensures

pub is_open-returns-in-Fixed : goal.is_open-returns-in-Fixed
unfolding is_open
is_open-returns-in-Fixed t c = rw c.in-Fixed.is refl

pub is_open-returns-in-Schematic : goal.is_open-returns-in-Schematic
unfolding is_open
is_open-returns-in-Schematic t c = rw c.in-Schematic.is refl

pub are_open-returns-in-Nil : goal.are_open-returns-in-Nil
unfolding are_open
are_open-returns-in-Nil t c = rw c.in-Nil.is refl

pub are_open-returns-then-is_open : goal.are_open-returns-then-is_open
are_open-returns-then-is_open t c = rw (c.in-Cons.is, cons_is, ← c.get.ensures) (open-here _ _ (sym c.is_open.ensures ∙ c.if-is_open.true))

pub are_open-returns-else-is_open : goal.are_open-returns-else-is_open
are_open-returns-else-is_open t c =
    rw (c.in-Cons.is, cons_is, ← c.get.ensures, ← c.get-else-is_open.ensures) (open-there _ _ _ (sym c.is_open.ensures ∙ c.if-is_open.false) c.are_open.ensures)
