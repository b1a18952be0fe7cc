use Rattle.iv_kernel.proofs.goal.form_implies.Goals as goal

pub returns-clause-prop : goal.returns-clause-prop
returns-clause-prop c = rw c.in_ok-form.ensures.ok at c.implied-thm.ensures.prop

pub returns-clause-derivation : goal.returns-clause-derivation
returns-clause-derivation c = rw c.in_ok-form.ensures.ok at c.implied-thm.ensures.derivation
