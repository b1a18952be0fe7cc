use Rattle.std.proofs.Common.{ap, subst}
use Rattle.iv_term.specs.Hyps.{IsDistinctTerms}
use Rattle.iv_rules.specs.Sequent.{AreProps}
use Rattle.iv_kernel.proofs.thm.Thm.hyps.Goals as goal

pub returns-clause-props : goal.returns-clause-props
returns-clause-props c =
    let s = c.conclusions_are_sequents.ensures.sequent _ _ c.self.invariant in subst AreProps (ap (λ t. t.hyps) c.self.view_is) s.hyps

pub returns-clause-distinct : goal.returns-clause-distinct
returns-clause-distinct c =
    let s = c.conclusions_are_sequents.ensures.sequent _ _ c.self.invariant in subst IsDistinctTerms (ap (λ t. t.hyps) c.self.view_is) s.distinct
