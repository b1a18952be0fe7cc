use Rattle.iv_rules.proofs.Shown.{inst-shows}
use Rattle.iv_rules.proofs.Instances.{instanced-prop, instanced-props}
use Rattle.iv_rules.proofs.steps.instances_are_shown.Goals as goal

pub returns-clause-inst : goal.returns-clause-inst
returns-clause-inst c = inst-shows c.putting_gives_terms.ensures.types c.putting_gives_terms.ensures.values

pub returns-clause-prop : goal.returns-clause-prop
returns-clause-prop c = instanced-prop c.putting_gives_terms.ensures.types c.putting_gives_terms.ensures.values

pub returns-clause-hyps : goal.returns-clause-hyps
returns-clause-hyps c = instanced-props c.putting_gives_terms.ensures.types c.putting_gives_terms.ensures.values
