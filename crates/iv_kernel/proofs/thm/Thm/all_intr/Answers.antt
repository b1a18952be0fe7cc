use Rattle.iv_kernel.proofs.Results.{shown-by}
use Rattle.iv_kernel.proofs.thm.Thm.all_intr.Goals as goal

pub by-requires : goal.by-requires
by-requires c =
    shown-by _ _ _ _ _ _ c.all_intr-rule.ensures.ok c.copy-hyps.ensures.ok c.quantified-prop.ensures.ok
    (c.quantified_are_shown.ensures.all_intr _ _ _ _ _ (rw (← c.t.view_is) at c.requires) c.t.invariant)
