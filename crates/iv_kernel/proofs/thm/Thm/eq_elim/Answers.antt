use Rattle.iv_kernel.proofs.Results.{shown-by}
use Rattle.iv_kernel.proofs.thm.Thm.eq_elim.Goals as goal

pub by-requires : goal.by-requires
by-requires c =
    shown-by _ _ _ _ _ _ c.eq_elim-rule.ensures.ok c.union-hyps.ensures.ok (rw c.consequent.ensures at c.copy-prop.ensures.ok)
    (c.equations_are_shown.ensures.eq_elim _ _ _ _ _ _ (rw (← c.eq.view_is, ← c.t.view_is) at c.requires) c.eq.invariant c.t.invariant)
