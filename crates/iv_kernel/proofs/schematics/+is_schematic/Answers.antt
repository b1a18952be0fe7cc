use Rattle.std.proofs.Common.{refl, sym, ◌∙◌}
use Rattle.iv_term.specs.Term.{abs_is, cons_is}
use Rattle.iv_kernel.specs.Schematics.{is_schematic, are_schematic}
use Rattle.iv_kernel.proofs.Variables.{under-here, under-there, head-here, head-there, term-here, term-there}
use Rattle.iv_kernel.proofs.schematics.+is_schematic.Goals as goal

pub is_schematic-returns-then-is_open : goal.is_schematic-returns-then-is_open
is_schematic-returns-then-is_open t c = rw (c.in-Abs.is, abs_is) (under-here _ _ (sym c.is_open.ensures ∙ c.if-is_open.true))

pub is_schematic-returns-else-is_open : goal.is_schematic-returns-else-is_open
is_schematic-returns-else-is_open t c = rw (c.in-Abs.is, abs_is, ← c.get.ensures) (under-there _ _ _ (sym c.is_open.ensures ∙ c.if-is_open.false) c.is_schematic.ensures)

pub is_schematic-returns-then-is_schematic_head : goal.is_schematic-returns-then-is_schematic_head
is_schematic-returns-then-is_schematic_head t c = rw c.in-Spine.is (head-here _ _ (sym c.is_schematic_head.ensures ∙ c.if-is_schematic_head.true))

pub is_schematic-returns-else-is_schematic_head : goal.is_schematic-returns-else-is_schematic_head
is_schematic-returns-else-is_schematic_head t c =
    rw c.in-Spine.is (head-there _ _ _ (sym c.is_schematic_head.ensures ∙ c.if-is_schematic_head.false) c.are_schematic.ensures)

pub are_schematic-returns-in-Nil : goal.are_schematic-returns-in-Nil
unfolding are_schematic
are_schematic-returns-in-Nil t c = rw c.in-Nil.is refl

pub are_schematic-returns-then-is_schematic : goal.are_schematic-returns-then-is_schematic
are_schematic-returns-then-is_schematic t c = rw (c.in-Cons.is, cons_is, ← c.get.ensures) (term-here _ _ (sym c.is_schematic.ensures ∙ c.if-is_schematic.true))

pub are_schematic-returns-else-is_schematic : goal.are_schematic-returns-else-is_schematic
are_schematic-returns-else-is_schematic t c =
    rw (c.in-Cons.is, cons_is, ← c.get.ensures, ← c.get-else-is_schematic.ensures) (term-there _ _ _ (sym c.is_schematic.ensures ∙ c.if-is_schematic.false) c.are_schematic.ensures)
