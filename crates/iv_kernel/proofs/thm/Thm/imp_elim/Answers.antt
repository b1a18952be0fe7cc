use Rattle.iv_kernel.proofs.Results.{shown-by}
use Rattle.iv_kernel.proofs.thm.Thm.imp_elim.Goals as goal

pub by-requires : goal.by-requires
by-requires c =
    shown-by _ _ _ _ _ _ c.imp_elim-rule.ensures.ok c.union-hyps.ensures.ok (rw c.consequent.ensures at c.copy-prop.ensures.ok)
    (c.propositions_are_shown.ensures.imp_elim _ _ _ _ _ _ (rw (← c.major.view_is, ← c.minor.view_is) at c.requires) c.major.invariant c.minor.invariant)
