use Rattle.iv_kernel.proofs.Results.{shown-by}
use Rattle.iv_kernel.proofs.thm.Thm.sym.Goals as goal

pub by-requires : goal.by-requires
by-requires c =
    shown-by _ _ _ _ _ _ c.sym-rule.ensures.ok c.copy-hyps.ensures.ok c.turned-prop.ensures.ok
    (c.equations_are_shown.ensures.sym _ _ _ (rw (← c.t.view_is) at c.requires) c.t.invariant)
