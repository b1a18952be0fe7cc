use Rattle.iv_kernel.proofs.Results.{shown-by}
use Rattle.iv_kernel.proofs.thm.Thm.imp_intr.Goals as goal

pub by-requires : goal.by-requires
by-requires c =
    shown-by _ _ _ _ _ _ c.imp_intr-rule.ensures.ok c.without-hyps.ensures.ok c.imp-concluded.ensures.ok
    (c.propositions_are_shown.ensures.imp_intr _ _ _ _ c.requires c.t.invariant)
