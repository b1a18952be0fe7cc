use Rattle.iv_kernel.proofs.goal.from_form.Goals as goal

pub assume-requires : goal.assume-requires
assume-requires c = rw c.requires.form (c.hhf_is_a_normal_form.ensures.typed _ _ _ c.requires.claim)

pub conv-requires : goal.conv-requires
conv-requires c = (c.requires.claim, rw (c.in_ok-assumed.ensures.prop, c.requires.form) (c.hhf_is_a_normal_form.ensures.once _ _ c.requires.claim.0))

pub returns-clause-hyps : goal.returns-clause-hyps
returns-clause-hyps c = rw c.in_ok-assumed.ensures.hyps at c.conv.ensures.hyps

pub returns-clause-derivation : goal.returns-clause-derivation
returns-clause-derivation c = rw c.in_ok-assumed.ensures.derivation at c.conv.ensures.derivation
