use Rattle.iv_kernel.proofs.Results.{shown-by}
use Rattle.iv_kernel.proofs.thm.Thm.trans.Goals as goal

pub by-requires : goal.by-requires
by-requires c =
    shown-by _ _ _ _ _ _ c.trans-rule.ensures.ok c.union-hyps.ensures.ok c.joined-prop.ensures.ok
    (c.equations_are_shown.ensures.trans _ _ _ _ _ _ (rw (← c.a.view_is, ← c.b.view_is) at c.requires) c.a.invariant c.b.invariant)
