use Rattle.std.proofs.Common.{ap, subst}
use Rattle.iv_rules.specs.Rules.{Shows}
use Rattle.iv_kernel.proofs.Results.{shown-by, open-prop, open-props}
use Rattle.iv_kernel.proofs.thm.Thm.inst.Goals as goal

pub instanced_hyps-hyps-requires : goal.instanced_hyps-hyps-requires
instanced_hyps-hyps-requires c = rw c.hyps.ensures.same (open-props _ c.hyps.ensures.props)

pub instanced-prop-requires : goal.instanced-prop-requires
instanced-prop-requires c = rw c.prop.ensures.same (open-prop _ c.prop.ensures.prop)

pub by-requires : goal.by-requires
by-requires c =
    shown-by _ _ _ _ _ _ (rw (ap (λ p. p.derivation) c.t.view_is) at c.inst-rule.ensures.ok) (rw c.hyps.ensures.same at c.instanced_hyps-hyps.ensures.ok)
    (rw c.prop.ensures.same at c.instanced-prop.ensures.ok)
    (c.instances_are_shown.ensures.inst _ _ _ _ c.are_keys_apart.ensures c.requires (subst (λ p. Shows p.derivation p.hyps p.prop) c.t.view_is c.t.invariant))

pub returns-clause-hyps : goal.returns-clause-hyps
returns-clause-hyps c = c.by.ensures.hyps _ (rw c.hyps.ensures.same at c.instanced_hyps-hyps.ensures.ok)

pub returns-clause-prop : goal.returns-clause-prop
returns-clause-prop c = c.by.ensures.prop _ (rw c.prop.ensures.same at c.instanced-prop.ensures.ok)
