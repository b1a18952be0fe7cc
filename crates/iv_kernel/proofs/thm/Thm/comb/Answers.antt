use Rattle.iv_kernel.proofs.Results.{shown-by}
use Rattle.iv_kernel.proofs.thm.Thm.comb.Goals as goal

pub by-requires : goal.by-requires
by-requires c =
    shown-by _ _ _ _ _ _ c.comb-rule.ensures.ok c.union-hyps.ensures.ok c.applied-prop.ensures.ok
    (c.congruences_are_shown.ensures.comb _ _ _ _ _ _ (rw (← c.f.view_is, ← c.x.view_is) at c.requires) c.f.invariant c.x.invariant)
