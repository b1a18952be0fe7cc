use Rattle.iv_kernel.proofs.Results.{shown-by}
use Rattle.iv_kernel.proofs.thm.Thm.abs.Goals as goal

pub by-requires : goal.by-requires
by-requires c =
    shown-by _ _ _ _ _ _ c.abs-rule.ensures.ok c.copy-hyps.ensures.ok c.abstracted-prop.ensures.ok
    (c.congruences_are_shown.ensures.abs _ _ _ _ _ (rw (← c.t.view_is) at c.requires) c.t.invariant)
