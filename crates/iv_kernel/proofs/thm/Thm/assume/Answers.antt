use Rattle.iv_kernel.proofs.Results.{shown-by}
use Rattle.iv_kernel.proofs.thm.Thm.assume.Goals as goal

pub by-requires : goal.by-requires
by-requires c =
    shown-by _ _ _ _ _ _ c.assume-rule.ensures.ok c.only-hyps.ensures.ok c.copy-concluded.ensures.ok
    (c.propositions_are_shown.ensures.assume _ c.requires)
