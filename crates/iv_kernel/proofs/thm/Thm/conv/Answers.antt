use Rattle.iv_kernel.proofs.Results.{shown-by}
use Rattle.iv_kernel.proofs.thm.Thm.conv.Goals as goal

pub by-requires : goal.by-requires
by-requires c =
    shown-by _ _ _ _ _ _ c.conv-rule.ensures.ok c.copy-hyps.ensures.ok c.copy-concluded.ensures.ok
    (c.propositions_are_shown.ensures.conv _ _ _ _ (rw (← c.t.view_is) at c.requires) c.t.invariant)
